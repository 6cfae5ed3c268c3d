-- Which structures were met, as they come onto the path and are left, and what is left to do.
-- For: walk
use Rattle.std.proofs.Common.{◌≡◌, ℕ, zero, suc, ◌+◌, ◌<◌, ◌≤◌, List, [], ◌∷◌, ◌++◌, length, map, drop, slice_get, slice_set, Bool, true, false, ◌||◌, nat_eq, Some, None, refl, sym, ap, ◌∙◌, subst, arith, inl, inr}
use Rattle.std.specs.Prelude.{is_some}
use Rattle.std.proofs.lemmas.Bool.{eq-eqb}
use Rattle.std.proofs.lemmas.Bool.Decides.{eqb_tells}
use Rattle.ps_base.proofs.Choices.{or_false}
use Rattle.ps_modules.specs.declared.shapes.OpenedName.{OpenedName}
use Rattle.ps_modules.specs.declared.shapes.Shape.{Shape}
use Rattle.ps_modules.specs.declared.walking.Frame.{Frame}
use Rattle.ps_modules.specs.InsideWalking.{IsMet, opens_by, all_unmet}
use Rattle.ps_modules.specs.Texts.{place_in}
use Rattle.ps_modules.specs.Walking.{is_on}
use Rattle.ps_modules.proofs.Places.{there_more, none_more_place}

-- the structures on the path
abbrev pub structures : List Frame → List ℕ
structures frames = map (λ f. f.structure) frames

set_here : (ms : List Bool) (i : ℕ) (m : Bool) → i < length ms → slice_get (slice_set ms i m) i ≡ Some m
set_here [] i m h = absurd (omega arith)
set_here (x ∷ ms) zero m h = refl
set_here (x ∷ ms) (suc i) m h = set_here ms i m (omega arith)

set_there : (ms : List Bool) (i j : ℕ) (m : Bool) → (i ≡ j → ⊥) → slice_get (slice_set ms i m) j ≡ slice_get ms j
set_there [] i j m h = refl
set_there (x ∷ ms) zero zero m h = absurd (h refl)
set_there (x ∷ ms) zero (suc j) m h = refl
set_there (x ∷ ms) (suc i) zero m h = refl
set_there (x ∷ ms) (suc i) (suc j) m h = set_there ms i j m (λ e. h (ap suc e))

pub unmet_length : (n : ℕ) → length (all_unmet n) ≡ n
unmet_length zero = refl
unmet_length (suc n) = ap suc (unmet_length n)

pub unmet_at : (n j : ℕ) → j < n → slice_get (all_unmet n) j ≡ Some false
unmet_at zero j h = absurd (omega arith)
unmet_at (suc n) zero h = refl
unmet_at (suc n) (suc j) h = unmet_at n j (omega arith)

pub unmet_more : (n : ℕ) → all_unmet (suc n) ≡ all_unmet n ++ false ∷ []
unmet_more zero = refl
unmet_more (suc n) = ap (λ ms. false ∷ ms) (unmet_more n)

pub none_met : (n : ℕ) → IsMet n (all_unmet n) [] []
none_met n = record { are = unmet_at n }

or_middle : (a b c : Bool) → b ≡ true → (a || (b || c)) ≡ true
or_middle true b c e = refl
or_middle false true c e = refl
or_middle false false c e = absurd (cc)

or_first : (a b c : Bool) → b ≡ false → (a || (b || c)) ≡ (a || c)
or_first a true c e = absurd (cc)
or_first a false c e = refl

or_turn : (a b c : Bool) → (a || (b || c)) ≡ ((a || b) || c)
or_turn true b c = refl
or_turn false b c = refl

turned : (i j : ℕ) → nat_eq i j ≡ false → nat_eq j i ≡ false
turned i j h = grind (arith, h)

turned_true : (i j : ℕ) → i ≡ j → nat_eq j i ≡ true
turned_true i j h = grind (arith, h)

-- one more stands on the path
pub one_met : (n : ℕ) (ms : List Bool) (path walked : List ℕ) (i : ℕ) → i < n → n ≡ length ms → IsMet n ms path walked → IsMet n (slice_set ms i true) (i ∷ path) walked
one_met n ms path walked i within size so = record {
  are = λ j below. elim (eqb_tells i j) [
    | inl h ↦ subst (λ k. slice_get (slice_set ms i true) k ≡ Some (is_some (place_in walked k) || is_on k (i ∷ path))) h.1
        (set_here ms i true (omega arith) ∙ ap (λ (m : Bool). Some m) (sym (or_middle (is_some (place_in walked i)) (nat_eq i i) (is_on i path) (eq-eqb i i refl))))
    | inr h ↦ set_there ms i j true h.1 ∙ so.are j below ∙ ap (λ (m : Bool). Some m) (sym (or_first (is_some (place_in walked j)) (nat_eq j i) (is_on j path) (turned i j h.0)))
  ];
}

-- the innermost of the path is left
pub one_left : (n : ℕ) (ms : List Bool) (path walked : List ℕ) (i : ℕ) → IsMet n ms (i ∷ path) walked → IsMet n ms path (walked ++ i ∷ [])
one_left n ms path walked i so = record {
  are = λ j below. so.are j below ∙ ap (λ (m : Bool). Some m) (or_turn (is_some (place_in walked j)) (nat_eq j i) (is_on j path) ∙ ap (λ b. b || is_on j path) (sym (there_more walked i j)));
}

-- ---- the path

-- the structures on the path are known, stand there once, and were not left
pub data PathSo (n : ℕ) (walked : List ℕ) : List Frame → Type 0 where
  nil : PathSo n walked []
  cons : {f : Frame} {frames : List Frame} → f.structure < n → place_in walked f.structure ≡ None → is_on f.structure (structures frames) ≡ false → PathSo n walked frames → PathSo n walked (f ∷ frames)

pub path_left : (n : ℕ) (walked : List ℕ) (i : ℕ) (frames : List Frame) → is_on i (structures frames) ≡ false → PathSo n walked frames → PathSo n (walked ++ i ∷ []) frames
path_left n walked i [] h so = nil
path_left n walked i (f ∷ frames) h (cons below new once rest) =
    let parts = or_false (nat_eq i f.structure) (is_on i (structures frames)) h in
    cons below (none_more_place walked i f.structure new (turned i f.structure parts.0)) once (path_left n walked i frames parts.1 rest)

-- ---- how many were met

pub met_count : List Bool → ℕ
met_count [] = 0
met_count (true ∷ ms) = suc (met_count ms)
met_count (false ∷ ms) = met_count ms

pub count_within : (ms : List Bool) → met_count ms ≤ length ms
unfolding met_count
count_within [] = omega arith
count_within (true ∷ ms) = let x = count_within ms in omega arith
count_within (false ∷ ms) = let x = count_within ms in omega arith

pub count_unmet : (n : ℕ) → met_count (all_unmet n) ≡ 0
unfolding met_count
count_unmet zero = refl
count_unmet (suc n) = count_unmet n

pub one_more : (ms : List Bool) (j : ℕ) → slice_get ms j ≡ Some false → met_count (slice_set ms j true) ≡ suc (met_count ms)
unfolding met_count
one_more [] j e = let x : None ≡ Some false = e in absurd (cc)
one_more (true ∷ ms) zero e = let x : Some true ≡ Some false = e in absurd (cc)
one_more (false ∷ ms) zero e = refl
one_more (true ∷ ms) (suc j) e = ap suc (one_more ms j e)
one_more (false ∷ ms) (suc j) e = one_more ms j e

pub one_unmet : (ms : List Bool) (j : ℕ) → slice_get ms j ≡ Some false → met_count ms < length ms
unfolding met_count
one_unmet [] j e = let x : None ≡ Some false = e in absurd (cc)
one_unmet (true ∷ ms) zero e = let x : Some true ≡ Some false = e in absurd (cc)
one_unmet (false ∷ ms) zero e = let x = count_within ms in omega arith
one_unmet (true ∷ ms) (suc j) e = let x = one_unmet ms j e in omega arith
one_unmet (false ∷ ms) (suc j) e = let x = one_unmet ms j e in omega arith

-- ---- what is left to do, so that the walk ends

same : {A : Type 0} (x y : A) → Some x ≡ Some y → x ≡ y
same x y e = cc

pub some_at : {A : Type 0} (xs : List A) (i : ℕ) (x : A) → slice_get xs i ≡ Some x → drop i xs ≡ x ∷ drop (i + 1) xs
some_at [] i x e = let h : None ≡ Some x = e in absurd (cc)
some_at (y ∷ xs) zero x e = ap (λ z. z ∷ xs) (same _ _ e)
some_at (y ∷ xs) (suc i) x e = some_at xs i x e ∙ (let one : suc i + 1 ≡ suc (i + 1) = omega arith in ap (λ k. x ∷ drop k (y ∷ xs)) (sym one))

pub none_at : {A : Type 0} (xs : List A) (i : ℕ) → slice_get xs i ≡ None → drop i xs ≡ []
none_at [] zero e = refl
none_at [] (suc i) e = refl
none_at (y ∷ xs) zero e = let h : Some y ≡ None = e in absurd (cc)
none_at (y ∷ xs) (suc i) e = none_at xs i e

zero_plus : (n : ℕ) → 0 + n ≡ n
zero_plus n = omega arith

plus_turn : (a b : ℕ) → a + b ≡ b + a
plus_turn a b = omega arith

weight_by : Bool → ℕ → ℕ
weight_by false n = suc (suc n)
weight_by true n = 0

-- the structures that were not met, each by its opened names
pub unmet_weight : List Shape → List Bool → ℕ
unmet_weight [] ms = 0
unmet_weight (s ∷ shapes) [] = 0
unmet_weight (s ∷ shapes) (m ∷ ms) = weight_by m (length s.clauses.opens) + unmet_weight shapes ms

-- the structures on the path, each by the opened names that are not done
pub path_weight : List Shape → List Frame → ℕ
path_weight shapes [] = 0
path_weight shapes (f ∷ frames) = suc (length (drop f.next (opens_by (slice_get shapes f.structure)))) + path_weight shapes frames

met_lighter : (shapes : List Shape) (ms : List Bool) (i : ℕ) → slice_get ms i ≡ Some false → i < length shapes → unmet_weight shapes (slice_set ms i true) + suc (suc (length (opens_by (slice_get shapes i)))) ≡ unmet_weight shapes ms
unfolding weight_by unmet_weight
met_lighter [] ms i e h = absurd (omega arith)
met_lighter (s ∷ shapes) [] i e h = let x : None ≡ Some false = e in absurd (cc)
met_lighter (s ∷ shapes) (m ∷ ms) zero e h = let x : m ≡ false = cc in ap (λ k. k + suc (suc (length s.clauses.opens))) (zero_plus _) ∙ plus_turn _ _ ∙ ap (λ k. weight_by k (length s.clauses.opens) + unmet_weight shapes ms) (sym x)
met_lighter (s ∷ shapes) (m ∷ ms) (suc i) e h = let x = met_lighter shapes ms i e (omega arith) in omega arith

module _ (shapes : List Shape) (f g : Frame) (frames : List Frame) (o : OpenedName) (at : slice_get (opens_by (slice_get shapes f.structure)) f.next ≡ Some o) (is : g.structure ≡ f.structure) (next : g.next ≡ f.next + 1) where
  on_lighter : suc (path_weight shapes (g ∷ frames)) ≡ path_weight shapes (f ∷ frames)
  unfolding path_weight
  on_lighter = let x = ap length (some_at (opens_by (slice_get shapes f.structure)) f.next o at) in
      let y = ap (λ i. length (drop g.next (opens_by (slice_get shapes i)))) is in
      let z = ap (λ k. length (drop k (opens_by (slice_get shapes f.structure)))) next in omega arith

  pub lighter_known : (ms : List Bool) (fs gs : List Frame) → fs ≡ f ∷ frames → gs ≡ g ∷ frames → unmet_weight shapes ms + path_weight shapes gs < unmet_weight shapes ms + path_weight shapes fs
  lighter_known ms fs gs e h = let x = on_lighter in let y = ap (path_weight shapes) e in let z = ap (path_weight shapes) h in omega arith

  begun_weight : (j : ℕ) (fresh : Frame) → fresh.structure ≡ j → fresh.next ≡ 0 → path_weight shapes (fresh ∷ g ∷ frames) ≡ suc (length (opens_by (slice_get shapes j))) + path_weight shapes (g ∷ frames)
  unfolding path_weight
  begun_weight j fresh e h = ap (λ k. suc (length (drop k (opens_by (slice_get shapes fresh.structure)))) + path_weight shapes (g ∷ frames)) h
      ∙ ap (λ k. suc (length (opens_by (slice_get shapes k))) + path_weight shapes (g ∷ frames)) e

  pub lighter_met : (ms ns : List Bool) (fs gs : List Frame) (j : ℕ) (fresh : Frame) → fresh.structure ≡ j → fresh.next ≡ 0 → fs ≡ f ∷ frames → gs ≡ fresh ∷ g ∷ frames
      → ns ≡ slice_set ms j true → slice_get ms j ≡ Some false → j < length shapes → unmet_weight shapes ns + path_weight shapes gs < unmet_weight shapes ms + path_weight shapes fs
  lighter_met ms ns fs gs j fresh s t e h k new below =
      let x = on_lighter in let y = ap (path_weight shapes) e in let z = ap (path_weight shapes) h in
      let v = ap (unmet_weight shapes) k in let w = met_lighter shapes ms j new below in let u = begun_weight j fresh s t in omega arith

pub lighter_left : (shapes : List Shape) (ms : List Bool) (fs : List Frame) (f : Frame) (frames : List Frame) → fs ≡ f ∷ frames → unmet_weight shapes ms + path_weight shapes frames < unmet_weight shapes ms + path_weight shapes fs
unfolding path_weight
lighter_left shapes ms fs f frames e = let y = ap (path_weight shapes) e in omega arith
