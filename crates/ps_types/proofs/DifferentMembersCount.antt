-- Different members of a list, counted from the least up.
-- For: number_of
use Rattle.std.proofs.Common.{◌≡◌, ℕ, suc, ◌+◌, ◌<◌, ◌≤◌, nat_lt, Bool, true, false, List, [], ◌∷◌, ◌⊎◌, inl, inr, refl, sym, ap, ◌∙◌, arith, add-one}
use Rattle.std.specs.Prelude.{◌==◌, ◌||◌, if◌then◌else◌}
use Rattle.std.proofs.lemmas.Bool.{ltb-true, lt-ltb, le-ltb, eq-eqb, ne_eqb, cases_order}
use Rattle.ps_types.specs.Writing.{stands_in, different}
use Rattle.ps_types.specs.InsideSearch.{all_below, none_between, IsLeast, NoneFrom}

-- the members from a floor on
abbrev pub from : ℕ → List ℕ → List ℕ
from f [] = []
from f (x ∷ xs) = if nat_lt x f then from f xs else x ∷ from f xs

pub all_from_0 : (xs : List ℕ) → from 0 xs ≡ xs
all_from_0 [] = refl
all_from_0 (x ∷ xs) = rw (le-ltb x 0 (omega arith), all_from_0 xs) refl

none_left : (f : ℕ) (xs : List ℕ) → all_below f xs → from f xs ≡ []
none_left f [] h = refl
none_left f (x ∷ xs) h = rw (lt-ltb x f h.0) (none_left f xs h.1)

pub none_counts : (f : ℕ) (xs : List ℕ) → NoneFrom f xs → different (from f xs) ≡ 0
none_counts f xs h = ap different (none_left f xs h.below)

-- a member from the floor on is kept
kept : (f x : ℕ) → f ≤ x → (xs : List ℕ) → stands_in x (from f xs) ≡ stands_in x xs
kept f x le [] = refl
kept f x le (z ∷ zs) = step (nat_lt z f) (kept f x le zs) refl
  where
    step : (b : Bool) → stands_in x (from f zs) ≡ stands_in x zs → nat_lt z f ≡ b → stands_in x (if b then from f zs else z ∷ from f zs) ≡ (z == x || stands_in x zs)
    step true rest e = let lt : z < f = ltb-true z f e in rw (ne_eqb z x (λ (q : z ≡ x). omega arith)) rest
    step false rest e = ap (λ (b : Bool). z == x || b) rest

-- one or none
abbrev one_if : Bool → ℕ
one_if b = if b then 1 else 0

-- what counts once counts once more where it is no member
first_counts : (b : Bool) (m n : ℕ) → m ≡ one_if b + n → (if b then m else suc m) ≡ 1 + n
first_counts true m n e = e
first_counts false m n e = omega arith

both_count : (a b : Bool) (m n : ℕ) → m ≡ one_if a + n → (if b then m else suc m) ≡ one_if a + (if b then n else suc n)
both_count a true m n e = e
both_count a false m n e = omega arith

-- those from a floor on are y, if it is one, and those above it
abbrev Counts : ℕ → ℕ → List ℕ → Type 0
Counts f y xs = different (from f xs) ≡ one_if (stands_in y xs) + different (from (suc y) xs)

at_y : (f y x : ℕ) (xs : List ℕ) → f ≤ y → x ≡ y → Counts f y xs → Counts f y (x ∷ xs)
at_y f y x xs le e rest = rw (le-ltb x f (omega arith), eq-eqb x y e, lt-ltb x (suc y) (omega arith), kept f x (omega arith) xs, e) (first_counts (stands_in y xs) _ _ rest)

above_y : (f y x : ℕ) (xs : List ℕ) → f ≤ y → y < x → Counts f y xs → Counts f y (x ∷ xs)
above_y f y x xs le lt rest = rw (le-ltb x f (omega arith), ne_eqb x y (λ (q : x ≡ y). omega arith), le-ltb x (suc y) (omega arith), kept f x (omega arith) xs, kept (suc y) x (omega arith) xs) (both_count (stands_in y xs) (stands_in x xs) _ _ rest)

below_floor : (f y x : ℕ) (xs : List ℕ) → f ≤ y → x < f → Counts f y xs → Counts f y (x ∷ xs)
below_floor f y x xs le lt rest = rw (lt-ltb x f lt, ne_eqb x y (λ (q : x ≡ y). omega arith), lt-ltb x (suc y) (omega arith)) rest

-- where no member lies between
counts : (f y : ℕ) → f ≤ y → (xs : List ℕ) → none_between f y xs → Counts f y xs
counts f y le [] h = refl
counts f y le (x ∷ xs) h = step (counts f y le xs h.1) h.0 (cases_order x y)
  where
    step : Counts f y xs → (x < f) ⊎ (y ≤ x) → (x ≡ y) ⊎ ((x < y) ⊎ (y < x)) → Counts f y (x ∷ xs)
    step rest (inl lt) c = below_floor f y x xs le lt rest
    step rest (inr ge) (inl e) = at_y f y x xs le e rest
    step rest (inr ge) (inr (inl lt)) = absurd (omega arith)
    step rest (inr ge) (inr (inr lt)) = above_y f y x xs le lt rest

-- the least counts once
pub least_counts : (f y : ℕ) (xs : List ℕ) → IsLeast f xs y → different (from f xs) ≡ 1 + different (from (y + 1) xs)
least_counts f y xs h = counts f y h.reaches xs h.least ∙ ap (λ (b : Bool). one_if b + different (from (suc y) xs)) h.stands ∙ ap (λ (n : ℕ). 1 + different (from n xs)) (sym (add-one y))
