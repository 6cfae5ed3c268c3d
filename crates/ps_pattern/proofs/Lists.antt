-- Lists of matches.
-- For: match_all, match_rows, idents, read_rules
use Rattle.std.proofs.Common.{◌≡◌, ℕ, zero, suc, ◌+◌, ◌<◌, arith, List, [], ◌∷◌, ◌++◌, map, take, drop, length, refl, ap, sym, ◌∙◌, Option, Some, None, append-nil, append_assoc, rules}
use Rattle.std.specs.Prelude.{slice_get, get_or}
use Rattle.std.proofs.lemmas.Option.{slice_get-get_or}
use Rattle.ps_pattern.specs.declared.syntax.Syntax.{Syntax}
use Rattle.ps_pattern.specs.Matching.{Binds, Matcher, both, all, before, collect}

pub both_none : (x : Option Binds) → both x None ≡ None
both_none None = refl
both_none (Some x) = refl

pub both_nothing : (x : Option Binds) → both x (Some []) ≡ x
both_nothing None = refl
both_nothing (Some x) = ap Some (append-nil x)

pub nothing_both : (x : Option Binds) → both (Some []) x ≡ x
nothing_both None = refl
nothing_both (Some x) = refl

pub both_assoc : (x y z : Option Binds) → both (both x y) z ≡ both x (both y z)
both_assoc None y z = refl
both_assoc (Some x) None z = refl
both_assoc (Some x) (Some y) None = refl
both_assoc (Some x) (Some y) (Some z) = ap Some (append_assoc x y z)

pub drop_all : {A : Type 0} (xs : List A) → drop (length xs) xs ≡ []
drop_all [] = refl
drop_all (x ∷ xs) = drop_all xs

-- the element at a place within the list
pub got : {A : Type 0} (xs : List A) (i : ℕ) (x : A) → i < length xs → x ≡ get_or xs i x → slice_get xs i ≡ Some x
got xs i x within e = slice_get-get_or xs i x within ∙ ap Some (sym e)

module _ {A : Type 0} (g : A → Matcher) where
  -- one matcher more
  pub all_next : (ps : List A) (fs : List Syntax) (i : ℕ) (p : A) (f : Syntax) → slice_get ps i ≡ Some p → slice_get fs i ≡ Some f → all (take (suc i) (map g ps)) fs ≡ both (all (take i (map g ps)) fs) (g p f)
  all_next [] fs i p f e h = search rules
  all_next (q ∷ ps) [] i p f e h = search rules
  all_next (q ∷ ps) (x ∷ fs) zero p f e h = both_nothing (g q x) ∙ sym (nothing_both (g q x)) ∙ search rules
  all_next (q ∷ ps) (x ∷ fs) (suc i) p f e h = ap (both (g q x)) (all_next ps fs i p f e h) ∙ sym (both_assoc (g q x) (all (take i (map g ps)) fs) (g p f))

  pub all_kept : (ps : List A) (fs : List Syntax) (i : ℕ) (p : A) (f : Syntax) (binds more new : Binds) → slice_get ps i ≡ Some p → slice_get fs i ≡ Some f → all (take i (map g ps)) fs ≡ Some binds → g p f ≡ Some more → new ≡ binds ++ more → all (take (i + 1) (map g ps)) fs ≡ Some new
  all_kept ps fs i p f binds more new e h inv k is =
      let one : i + 1 ≡ suc i = omega arith in
      ap (λ n. all (take n (map g ps)) fs) one ∙ all_next ps fs i p f e h ∙ ap (λ z. both z (g p f)) inv ∙ ap (both (Some binds)) k ∙ ap Some (sym is)

  pub all_none : (ps : List A) (fs : List Syntax) (i : ℕ) (p : A) (f : Syntax) → slice_get ps i ≡ Some p → slice_get fs i ≡ Some f → g p f ≡ None → all (map g ps) fs ≡ None
  all_none [] fs i p f e h k = search rules
  all_none (q ∷ ps) [] i p f e h k = refl
  all_none (q ∷ ps) (x ∷ fs) zero p f e h k = search rules
  all_none (q ∷ ps) (x ∷ fs) (suc i) p f e h k = ap (both (g q x)) (all_none ps fs i p f e h k) ∙ both_none (g q x)

  pub all_short : (ps : List A) (fs : List Syntax) (i : ℕ) (p : A) → slice_get ps i ≡ Some p → slice_get fs i ≡ None → all (map g ps) fs ≡ None
  all_short [] fs i p e h = search rules
  all_short (q ∷ ps) [] i p e h = refl
  all_short (q ∷ ps) (x ∷ fs) zero p e h = search rules
  all_short (q ∷ ps) (x ∷ fs) (suc i) p e h = ap (both (g q x)) (all_short ps fs i p e h) ∙ both_none (g q x)

module _ {A B : Type 0} (g : A → Option B) where
  abbrev pub after : Option (List B) → Option B → Option (List B)
  after (Some xs) (Some x) = Some (xs ++ x ∷ [])
  after (Some xs) None = None
  after None x = None

  before_after : (x : Option B) (xs : Option (List B)) (y : Option B) → before x (after xs y) ≡ after (before x xs) y
  before_after None xs y = refl
  before_after (Some x) None y = refl
  before_after (Some x) (Some xs) None = refl
  before_after (Some x) (Some xs) (Some y) = refl

  before_none : (x : Option B) → before x None ≡ None
  before_none None = refl
  before_none (Some x) = refl

  first_after : (x : Option B) → before x (Some []) ≡ after (Some []) x
  first_after None = refl
  first_after (Some x) = refl

  pub collect_next : (fs : List A) (i : ℕ) (f : A) → slice_get fs i ≡ Some f → collect (map g (take (suc i) fs)) ≡ after (collect (map g (take i fs))) (g f)
  collect_next [] i f e = search rules
  collect_next (x ∷ fs) zero f e = first_after (g x) ∙ search rules
  collect_next (x ∷ fs) (suc i) f e = ap (before (g x)) (collect_next fs i f e) ∙ before_after (g x) (collect (map g (take i fs))) (g f)

  pub collect_kept : (fs : List A) (i : ℕ) (f : A) (rows : List B) (row : B) (new : List B) → slice_get fs i ≡ Some f → collect (map g (take i fs)) ≡ Some rows → g f ≡ Some row → new ≡ rows ++ row ∷ [] → collect (map g (take (i + 1) fs)) ≡ Some new
  collect_kept fs i f rows row new e inv k is =
      let one : i + 1 ≡ suc i = omega arith in
      ap (λ n. collect (map g (take n fs))) one ∙ collect_next fs i f e ∙ ap (λ z. after z (g f)) inv ∙ ap (after (Some rows)) k ∙ ap Some (sym is)

  pub collect_none : (fs : List A) (i : ℕ) (f : A) → slice_get fs i ≡ Some f → g f ≡ None → collect (map g fs) ≡ None
  collect_none [] i f e k = search rules
  collect_none (x ∷ fs) zero f e k = search rules
  collect_none (x ∷ fs) (suc i) f e k = ap (before (g x)) (collect_none fs i f e k) ∙ before_none (g x)
