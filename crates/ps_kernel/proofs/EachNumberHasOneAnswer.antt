-- What a kernel says of a number, it says at one place.
-- For: `one_answer`, and `lambdas_have_places` and `bodies_are_scoped` by what the rules say of the whole text
use Rattle.std.proofs.Common.{◌≡◌, ℕ, suc, ◌≤◌, Bool, true, false, List, [], ◌∷◌, length, Some, inl, inr, refl, sym, ap, ◌∙◌, arith}
use Rattle.std.specs.Prelude.{◌==◌, if◌then◌else◌}
use Rattle.std.specs.List.{list_all}
use Rattle.std.proofs.lemmas.Bool.{and_parts, eq-eqb, cases_lt}
use Rattle.ps_kernel.specs.declared.expr.Expr.{Expr}
use Rattle.ps_kernel.specs.declared.expr.GroupEntry.{GroupEntry}
use Rattle.ps_kernel.specs.declared.kernel.Form.{Form}
use Rattle.ps_kernel.specs.declared.kernel.Form.TheVariants.{Define, Do}
use Rattle.ps_kernel.specs.declared.kernel.Kernel.{Kernel}
use Rattle.ps_prims.specs.Once.{times, EachOnce}
use Rattle.ps_kernel.specs.Lists.{stands_in, Each, Among}
use Rattle.ps_kernel.specs.Marks.{Mark, Stands, BindsParameter, BindsLet, BindsEntry, Sets}
use Rattle.ps_kernel.specs.Texts.{standing, bound, assigned, entries, group_in, entry_in, text, group_of, entry_of, lambda_in, defined_by}
use Rattle.ps_kernel.specs.Rules.{has_level, is_in_scope, defined}
use Rattle.ps_kernel.specs.Valid.{IsValid}
use Rattle.ps_kernel.specs.Laws.{HasOneAnswer}
use Rattle.ps_kernel.proofs.NumbersStandInLists.{or_left, or_right, in_times, is_false}
use Rattle.ps_kernel.proofs.PartsAreSound.{is_assigned, says, IsFine, Sound}

-- ---- members

pub all_among : {A : Type 0} (p : A → Bool) (xs : List A) → list_all p xs ≡ true → (x : A) → Among x xs → p x ≡ true
all_among p [] h x i = absurd i
all_among p (y ∷ ys) h x i = let r = and_parts (p y) (list_all p ys) h in elim i [ inl is ↦ ap p is ∙ r.0 | inr rest ↦ all_among p ys r.1 x rest ]

pub each_from : {A : Type 0} (P : A → Type 0) (xs : List A) → ((x : A) → Among x xs → P x) → Each P xs
each_from P [] h = tt
each_from P (x ∷ xs) h = (h x (inl refl), each_from P xs (λ y i. h y (inr i)))

pub among_standing : (l : ℕ) (g : List GroupEntry) (ms : List Mark) → Among (Stands l g) ms → stands_in l (standing ms) ≡ true
among_standing l g [] i = absurd i
among_standing l g (Stands n h ∷ ms) i =
    elim i [ inl is ↦ let e : l ≡ n = cc in or_left (l == n) (stands_in l (standing ms)) (eq-eqb l n e) | inr rest ↦ or_right (l == n) (stands_in l (standing ms)) (among_standing l g ms rest) ]
among_standing l g (m ∷ ms) i = elim i [ inl is ↦ absurd cc | inr rest ↦ among_standing l g ms rest ]

among_assigned : (x : ℕ) (s : List ℕ) (ms : List Mark) → Among (Sets x s) ms → stands_in x (assigned ms) ≡ true
among_assigned x s [] i = absurd i
among_assigned x s (Sets y t ∷ ms) i =
    elim i [ inl is ↦ let e : x ≡ y = cc in or_left (x == y) (stands_in x (assigned ms)) (eq-eqb x y e) | inr rest ↦ or_right (x == y) (stands_in x (assigned ms)) (among_assigned x s ms rest) ]
among_assigned x s (m ∷ ms) i = elim i [ inl is ↦ absurd cc | inr rest ↦ among_assigned x s ms rest ]

among_entries : (e : GroupEntry) (ms : List Mark) → Among (BindsEntry e) ms → stands_in e.local (entries ms) ≡ true
among_entries e [] i = absurd i
among_entries e (BindsEntry d ∷ ms) i =
    elim i [ inl is ↦ let q : e ≡ d = cc in or_left (e.local == d.local) (stands_in e.local (entries ms)) (eq-eqb e.local d.local (ap (λ (z : GroupEntry). z.local) q)) | inr rest ↦ or_right (e.local == d.local) (stands_in e.local (entries ms)) (among_entries e ms rest) ]
among_entries e (m ∷ ms) i = elim i [ inl is ↦ absurd cc | inr rest ↦ among_entries e ms rest ]

among_bound : (e : GroupEntry) (ms : List Mark) → Among (BindsEntry e) ms → stands_in e.local (bound ms) ≡ true
among_bound e [] i = absurd i
among_bound e (BindsEntry d ∷ ms) i =
    elim i [ inl is ↦ let q : e ≡ d = cc in or_left (e.local == d.local) (stands_in e.local (bound ms)) (eq-eqb e.local d.local (ap (λ (z : GroupEntry). z.local) q)) | inr rest ↦ or_right (e.local == d.local) (stands_in e.local (bound ms)) (among_bound e ms rest) ]
among_bound e (BindsParameter x ∷ ms) i = elim i [ inl is ↦ absurd cc | inr rest ↦ or_right (e.local == x) (stands_in e.local (bound ms)) (among_bound e ms rest) ]
among_bound e (BindsLet x ∷ ms) i = elim i [ inl is ↦ absurd cc | inr rest ↦ or_right (e.local == x) (stands_in e.local (bound ms)) (among_bound e ms rest) ]
among_bound e (m ∷ ms) i = elim i [ inl is ↦ absurd cc | inr rest ↦ among_bound e ms rest ]

among_defined : (g : ℕ) (e : Expr) (fs : List Form) → Among (Define g e) fs → stands_in g (defined fs) ≡ true
among_defined g e [] i = absurd i
among_defined g e (Define d a ∷ fs) i =
    elim i [ inl is ↦ let q : g ≡ d = cc in or_left (g == d) (stands_in g (defined fs)) (eq-eqb g d q) | inr rest ↦ or_right (g == d) (stands_in g (defined fs)) (among_defined g e fs rest) ]
among_defined g e (Do a ∷ fs) i = elim i [ inl is ↦ absurd cc | inr rest ↦ among_defined g e fs rest ]

-- ---- the first is the only one

-- a number that stands in a list behind itself stands there twice
twice : (x y : ℕ) (ys : List ℕ) → times x (y ∷ ys) ≤ 1 → stands_in x ys ≡ true → (x == y) ≡ false
twice x y ys low i = by (x == y) low (in_times x ys i)
  where
    by : (d : Bool) → (if d then suc (times x ys) else times x ys) ≤ 1 → 1 ≤ times x ys → d ≡ false
    by true low one = absurd (omega arith)
    by false low one = refl

fewer : (x y : ℕ) (ys : List ℕ) → times x (y ∷ ys) ≤ 1 → times x ys ≤ 1
fewer x y ys low = by (x == y) low
  where
    by : (d : Bool) → (if d then suc (times x ys) else times x ys) ≤ 1 → times x ys ≤ 1
    by true low = omega arith
    by false low = low

group_once : (l : ℕ) (g : List GroupEntry) (ms : List Mark) → Among (Stands l g) ms → times l (standing ms) ≤ 1 → group_in l ms ≡ g
group_once l g [] i low = absurd i
group_once l g (Stands n h ∷ ms) i low = elim i [
  | inl is ↦ let e : l ≡ n = cc in let q : h ≡ g = cc in ap (λ (b : Bool). if b then h else group_in l ms) (eq-eqb l n e) ∙ q
  | inr rest ↦ ap (λ (b : Bool). if b then h else group_in l ms) (twice l n (standing ms) low (among_standing l g ms rest)) ∙ group_once l g ms rest (fewer l n (standing ms) low)
]
group_once l g (m ∷ ms) i low = elim i [ inl is ↦ absurd cc | inr rest ↦ group_once l g ms rest low ]

entry_once : (e : GroupEntry) (ms : List Mark) → Among (BindsEntry e) ms → times e.local (bound ms) ≤ 1 → entry_in e.local ms ≡ Some e
entry_once e [] i low = absurd i
entry_once e (BindsEntry d ∷ ms) i low = elim i [
  | inl is ↦ let q : e ≡ d = cc in ap (λ (b : Bool). if b then Some d else entry_in e.local ms) (eq-eqb e.local d.local (ap (λ (z : GroupEntry). z.local) q)) ∙ ap Some (sym q)
  | inr rest ↦ ap (λ (b : Bool). if b then Some d else entry_in e.local ms) (twice e.local d.local (bound ms) low (among_bound e ms rest)) ∙ entry_once e ms rest (fewer e.local d.local (bound ms) low)
]
entry_once e (BindsParameter x ∷ ms) i low = elim i [ inl is ↦ absurd cc | inr rest ↦ entry_once e ms rest (fewer e.local x (bound ms) low) ]
entry_once e (BindsLet x ∷ ms) i low = elim i [ inl is ↦ absurd cc | inr rest ↦ entry_once e ms rest (fewer e.local x (bound ms) low) ]
entry_once e (m ∷ ms) i low = elim i [ inl is ↦ absurd cc | inr rest ↦ entry_once e ms rest low ]

procedure_once : (g : ℕ) (e : Expr) (fs : List Form) → Among (Define g e) fs → times g (defined fs) ≤ 1 → defined_by g fs ≡ lambda_in e
procedure_once g e [] i low = absurd i
procedure_once g e (Define d a ∷ fs) i low = elim i [
  | inl is ↦ let p : g ≡ d = cc in let q : a ≡ e = cc in ap (λ (b : Bool). if b then lambda_in a else defined_by g fs) (eq-eqb g d p) ∙ ap lambda_in q
  | inr rest ↦ ap (λ (b : Bool). if b then lambda_in a else defined_by g fs) (twice g d (defined fs) low (among_defined g e fs rest)) ∙ procedure_once g e fs rest (fewer g d (defined fs) low)
]
procedure_once g e (Do a ∷ fs) i low = elim i [ inl is ↦ absurd cc | inr rest ↦ procedure_once g e fs rest low ]

at_most : (n : ℕ) (xs : List ℕ) → EachOnce n xs → (x : ℕ) → times x xs ≤ 1
at_most n xs h x = elim (cases_lt x n) [ inl lt ↦ let e = h.once x lt in omega arith | inr le ↦ let e = h.others x le in omega arith ]

module _ (k : Kernel) (h : IsValid k) where
  group_answer : (l : ℕ) (g : List GroupEntry) → Among (Stands l g) (text k) → group_of k l ≡ g
  unfolding group_of
  group_answer l g i = group_once l g (text k) i (at_most (length k.lambdas) (standing (text k)) h.rules.lambdas l)

  entry_answer : (e : GroupEntry) → Among (BindsEntry e) (text k) → entry_of k e.local ≡ Some e
  unfolding entry_of
  entry_answer e i = entry_once e (text k) i (h.rules.bound_once.once e.local)

  pub one_answer : HasOneAnswer k
  one_answer = record { group = group_answer; entry = entry_answer; procedure = λ g e i. procedure_once g e k.forms i (at_most (length k.definitions) (defined k.forms) h.definitions g) }

  -- ---- what the rules say of each mark

  meant : (m : Mark) → Among m (text k) → says k m
  meant (Stands l g) i = group_answer l g i
  meant (BindsEntry e) i = is_false (is_assigned k e.local) (λ a. let out = h.rules.entries_stay.apart e.local a in let there = among_entries e (text k) i in absurd cc)
  meant (Sets x s) i = among_assigned x s (text k) i
  meant m i = tt

  pub whole : Sound k [] (text k)
  whole = record {
    fine = each_from (IsFine k) (text k) (λ m i. record { level = all_among has_level (text k) h.rules.depth m i; in_scope = all_among is_in_scope (text k) h.rules.in_scope m i; meaning = meant m i; there = i });
    fresh = λ x. let low = h.rules.bound_once.once x in omega (arith, low);
  }
