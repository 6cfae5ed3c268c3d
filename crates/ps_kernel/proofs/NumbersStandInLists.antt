-- Numbers that stand in lists, and facts on each member.
-- For: `one_answer`, `lambdas_have_places`, `bodies_are_scoped` and `is_right`
use Rattle.std.proofs.Common.{◌≡◌, ℕ, suc, ◌+◌, ◌≤◌, Bool, true, false, List, [], ◌∷◌, ◌++◌, inl, inr, refl, sym, ◌∙◌, arith}
use Rattle.std.specs.Prelude.{◌==◌, ◌||◌, ◌⊎◌, if◌then◌else◌}
use Rattle.ps_prims.specs.Once.{times}
use Rattle.ps_kernel.specs.Lists.{stands_in, Each}

-- ---- tests

pub or_cases : (a b : Bool) → (a || b) ≡ true → (a ≡ true) ⊎ (b ≡ true)
or_cases true b h = inl refl
or_cases false b h = inr h

pub or_left : (a b : Bool) → a ≡ true → (a || b) ≡ true
or_left true b h = refl
or_left false b h = absurd cc

pub or_right : (a b : Bool) → b ≡ true → (a || b) ≡ true
or_right true b h = refl
or_right false b h = h

pub or_neither : (a b : Bool) → (a || b) ≡ false → (a ≡ false) × (b ≡ false)
or_neither true b h = absurd cc
or_neither false b h = (refl, h)

pub is_false : (a : Bool) → (a ≡ true → ⊥) → a ≡ false
is_false true h = absurd (h refl)
is_false false h = refl

pub either : (a : Bool) → (a ≡ true) ⊎ (a ≡ false)
either true = inl refl
either false = inr refl

-- ---- members

pub stands_append : (x : ℕ) (a b : List ℕ) → stands_in x (a ++ b) ≡ (stands_in x a || stands_in x b)
stands_append x [] b = refl
stands_append x (y ∷ a) b = by (x == y) (stands_append x a b)
  where
    by : (d : Bool) → stands_in x (a ++ b) ≡ (stands_in x a || stands_in x b) → (d || stands_in x (a ++ b)) ≡ ((d || stands_in x a) || stands_in x b)
    by true h = refl
    by false h = h

pub in_append : (x : ℕ) (a b : List ℕ) → stands_in x (a ++ b) ≡ true → (stands_in x a ≡ true) ⊎ (stands_in x b ≡ true)
in_append x a b h = or_cases (stands_in x a) (stands_in x b) (sym (stands_append x a b) ∙ h)

pub in_left : (x : ℕ) (a b : List ℕ) → stands_in x a ≡ true → stands_in x (a ++ b) ≡ true
in_left x a b h = stands_append x a b ∙ or_left (stands_in x a) (stands_in x b) h

pub in_right : (x : ℕ) (a b : List ℕ) → stands_in x b ≡ true → stands_in x (a ++ b) ≡ true
in_right x a b h = stands_append x a b ∙ or_right (stands_in x a) (stands_in x b) h

pub not_in_append : (x : ℕ) (a b : List ℕ) → stands_in x (a ++ b) ≡ false → (stands_in x a ≡ false) × (stands_in x b ≡ false)
not_in_append x a b h = or_neither (stands_in x a) (stands_in x b) (sym (stands_append x a b) ∙ h)

-- ---- how often

pub times_append : (x : ℕ) (a b : List ℕ) → times x (a ++ b) ≡ times x a + times x b
times_append x [] b = omega arith
times_append x (y ∷ a) b = by (x == y) (times_append x a b)
  where
    by : (d : Bool) → times x (a ++ b) ≡ times x a + times x b → (if d then suc (times x (a ++ b)) else times x (a ++ b)) ≡ (if d then suc (times x a) else times x a) + times x b
    by true h = omega arith
    by false h = h

pub in_times : (x : ℕ) (xs : List ℕ) → stands_in x xs ≡ true → 1 ≤ times x xs
in_times x [] h = absurd cc
in_times x (y ∷ ys) h = by (x == y) h (in_times x ys)
  where
    by : (d : Bool) → (d || stands_in x ys) ≡ true → (stands_in x ys ≡ true → 1 ≤ times x ys) → 1 ≤ (if d then suc (times x ys) else times x ys)
    by true h r = omega arith
    by false h r = r h

pub times_in : (x : ℕ) (xs : List ℕ) → 1 ≤ times x xs → stands_in x xs ≡ true
times_in x [] h = absurd (omega arith)
times_in x (y ∷ ys) h = by (x == y) h (times_in x ys)
  where
    by : (d : Bool) → 1 ≤ (if d then suc (times x ys) else times x ys) → (1 ≤ times x ys → stands_in x ys ≡ true) → (d || stands_in x ys) ≡ true
    by true h r = refl
    by false h r = r h

-- ---- a fact on each member

pub each_left : {A : Type 0} (P : A → Type 0) (a b : List A) → Each P (a ++ b) → Each P a
each_left P [] b h = tt
each_left P (x ∷ a) b h = (h.0, each_left P a b h.1)

pub each_right : {A : Type 0} (P : A → Type 0) (a b : List A) → Each P (a ++ b) → Each P b
each_right P [] b h = h
each_right P (x ∷ a) b h = each_right P a b h.1
