-- Numbers that stand once in a list, and the flags that tell.
-- For: `each_once`, and `is_right` for the lambdas
use Rattle.std.proofs.Common.{◌≡◌, ◌↔◌, ℕ, zero, suc, ◌+◌, ◌<◌, ◌≤◌, Bool, true, false, List, [], ◌∷◌, length, Option, Some, None, slice_get, inl, inr, refl, sym, ap, ◌∙◌, arith}
use Rattle.std.specs.Prelude.{◌==◌, if◌then◌else◌}
use Rattle.std.specs.List.{fold, list_all}
use Rattle.std.proofs.Math.ListN.{replicate, length-set, length-replicate}
use Rattle.std.proofs.lemmas.Bool.{and_parts, and_from, eqb-true, eqb-false, eq-eqb, ne_eqb, cases_lt}
use Rattle.ps_prims.specs.Once.{times, EachOnce}
use Rattle.ps_kernel.specs.InsideWalks.{is_some_false, stand, meets}

-- ---- how often a number stands in a list

pub times_same : (x y : ℕ) (ys : List ℕ) → x ≡ y → times x (y ∷ ys) ≡ suc (times x ys)
times_same x y ys e = ap (λ (b : Bool). if b then suc (times x ys) else times x ys) (eq-eqb x y e)

pub times_other : (x y : ℕ) (ys : List ℕ) → (x ≡ y → ⊥) → times x (y ∷ ys) ≡ times x ys
times_other x y ys ne = ap (λ (b : Bool). if b then suc (times x ys) else times x ys) (ne_eqb x y ne)

-- ---- flags

abbrev pub is_set : Option Bool → ℕ
is_set None = 0
is_set (Some true) = 1
is_set (Some false) = 0

abbrev pub flag_at : List Bool → ℕ → ℕ
flag_at flags l = is_set (slice_get flags l)

stand_other : (flags : List Bool) (l x : ℕ) → (x ≡ l → ⊥) → flag_at (stand flags l) x ≡ flag_at flags x
stand_other [] l x ne = refl
stand_other (f ∷ fs) zero zero ne = absurd (ne refl)
stand_other (f ∷ fs) zero (suc x) ne = refl
stand_other (f ∷ fs) (suc l) zero ne = refl
stand_other (f ∷ fs) (suc l) (suc x) ne = stand_other fs l x (λ e. ne (ap suc e))

free : (flags : List Bool) (l : ℕ) → is_some_false (slice_get flags l) ≡ true → (flag_at flags l ≡ 0) × (flag_at (stand flags l) l ≡ 1) × (l < length flags)
free [] l h = absurd cc
free (true ∷ fs) zero h = absurd cc
free (false ∷ fs) zero h = (refl, refl, omega arith)
free (f ∷ fs) (suc l) h = let r = free fs l h in (r.0, r.1, omega (arith, r.2))

free_from : (flags : List Bool) (l : ℕ) → l < length flags → flag_at flags l ≡ 0 → is_some_false (slice_get flags l) ≡ true
free_from [] l lt e = absurd (omega arith)
free_from (true ∷ fs) zero lt e = absurd (omega arith)
free_from (false ∷ fs) zero lt e = refl
free_from (f ∷ fs) (suc l) lt e = free_from fs l (omega arith) e

counted : (flags : List Bool) (ls : List ℕ) → meets flags ls ≡ true → (x : ℕ) → times x ls + flag_at flags x ≡ flag_at (fold stand flags ls) x
counted flags [] h x = omega arith
counted flags (l ∷ ls) h x =
    let p = and_parts (is_some_false (slice_get flags l)) (meets (stand flags l) ls) h in
    by (x == l) refl (free flags l p.0) (counted (stand flags l) ls p.1 x)
  where
    by : (b : Bool) → (x == l) ≡ b → (flag_at flags l ≡ 0) × (flag_at (stand flags l) l ≡ 1) × (l < length flags) → times x ls + flag_at (stand flags l) x ≡ flag_at (fold stand (stand flags l) ls) x → (if b then suc (times x ls) else times x ls) + flag_at flags x ≡ flag_at (fold stand (stand flags l) ls) x
    by true e r rest =
        let is : x ≡ l = eqb-true x l e in
        let here : flag_at flags x ≡ 0 = ap (flag_at flags) is ∙ r.0 in
        let there : flag_at (stand flags l) x ≡ 1 = ap (flag_at (stand flags l)) is ∙ r.1 in
        omega arith
    by false e r rest = let same : flag_at (stand flags l) x ≡ flag_at flags x = stand_other flags l x (eqb-false x l e) in omega arith

within : (flags : List Bool) (ls : List ℕ) → meets flags ls ≡ true → (x : ℕ) → length flags ≤ x → times x ls ≡ 0
within flags [] h x le = refl
within flags (l ∷ ls) h x le =
    let p = and_parts (is_some_false (slice_get flags l)) (meets (stand flags l) ls) h in
    let r = free flags l p.0 in
    let lt : l < length flags = r.2 in
    let same : length (stand flags l) ≡ length flags = length-set flags l true in
    let ne : x ≡ l → ⊥ = λ e. absurd (omega arith) in
    times_other x l ls ne ∙ within (stand flags l) ls p.1 x (omega arith)

meets_from : (flags : List Bool) (ls : List ℕ) → ((x : ℕ) → times x ls + flag_at flags x ≤ 1) → ((x : ℕ) → length flags ≤ x → times x ls ≡ 0) → meets flags ls ≡ true
meets_from flags [] once none = refl
meets_from flags (l ∷ ls) once none =
    let here : times l (l ∷ ls) ≡ suc (times l ls) = times_same l l ls refl in
    let low : times l (l ∷ ls) + flag_at flags l ≤ 1 = once l in
    let clear : flag_at flags l ≡ 0 = omega arith in
    let gone : times l ls ≡ 0 = omega arith in
    let same : length (stand flags l) ≡ length flags = length-set flags l true in
    let inside : l < length flags = by_cases (none l) here in
    let can : is_some_false (slice_get flags l) ≡ true = free_from flags l inside clear in
    and_from (is_some_false (slice_get flags l)) (meets (stand flags l) ls) can
    (meets_from (stand flags l) ls (λ x. next x (x == l) refl gone (free flags l can).1 (once x)) (λ x le. rest x (x == l) refl (none x (omega arith))))
  where
    by_cases : (length flags ≤ l → times l (l ∷ ls) ≡ 0) → times l (l ∷ ls) ≡ suc (times l ls) → l < length flags
    by_cases f e = elim (cases_lt l (length flags)) [ inl lt ↦ lt | inr le ↦ let z : times l (l ∷ ls) ≡ 0 = f le in absurd (omega arith) ]

    next : (x : ℕ) (b : Bool) → (x == l) ≡ b → times l ls ≡ 0 → flag_at (stand flags l) l ≡ 1 → times x (l ∷ ls) + flag_at flags x ≤ 1 → times x ls + flag_at (stand flags l) x ≤ 1
    next x true e gone set low =
        let is : x ≡ l = eqb-true x l e in
        let a : times x ls ≡ 0 = ap (λ (y : ℕ). times y ls) is ∙ gone in
        let b : flag_at (stand flags l) x ≡ 1 = ap (flag_at (stand flags l)) is ∙ set in
        omega arith
    next x false e gone set low =
        let a : times x (l ∷ ls) ≡ times x ls = times_other x l ls (eqb-false x l e) in
        let b : flag_at (stand flags l) x ≡ flag_at flags x = stand_other flags l x (eqb-false x l e) in
        omega arith

    rest : (x : ℕ) (b : Bool) → (x == l) ≡ b → times x (l ∷ ls) ≡ 0 → times x ls ≡ 0
    rest x true e z = let a : times x (l ∷ ls) ≡ suc (times x ls) = times_same x l ls (eqb-true x l e) in omega arith
    rest x false e z = let a : times x (l ∷ ls) ≡ times x ls = times_other x l ls (eqb-false x l e) in omega arith

-- ---- all flags

length-stands : (flags : List Bool) (ls : List ℕ) → length (fold stand flags ls) ≡ length flags
length-stands flags [] = refl
length-stands flags (l ∷ ls) = length-stands (stand flags l) ls ∙ length-set flags l true

all_at : (flags : List Bool) → list_all (λ b. b) flags ≡ true → (x : ℕ) → x < length flags → flag_at flags x ≡ 1
all_at [] h x lt = absurd (omega arith)
all_at (true ∷ fs) h zero lt = refl
all_at (false ∷ fs) h x lt = absurd cc
all_at (true ∷ fs) h (suc x) lt = all_at fs h x (omega arith)

all_from : (flags : List Bool) → ((x : ℕ) → x < length flags → flag_at flags x ≡ 1) → list_all (λ b. b) flags ≡ true
all_from [] h = refl
all_from (true ∷ fs) h = all_from fs (λ x lt. h (suc x) (omega arith))
all_from (false ∷ fs) h = let lt : 0 < suc (length fs) = omega arith in let one : ℕ = 1 in let wrong : flag_at (false ∷ fs) 0 ≡ one = h 0 lt in absurd (omega arith)

unset_at : (n x : ℕ) → flag_at (replicate n false) x ≡ 0
unset_at zero x = refl
unset_at (suc n) zero = refl
unset_at (suc n) (suc x) = unset_at n x

-- ---- each number stands once

abbrev pub unset_flags : ℕ → List Bool
unset_flags n = replicate n false

pub each_of : (n : ℕ) (ls : List ℕ) → meets (unset_flags n) ls ≡ true → list_all (λ b. b) (fold stand (unset_flags n) ls) ≡ true → EachOnce n ls
each_of n ls m a = record {
  once = λ x lt.
      let size : length (fold stand (unset_flags n) ls) ≡ n = length-stands (unset_flags n) ls ∙ length-replicate n false in
      let end : flag_at (fold stand (unset_flags n) ls) x ≡ 1 = all_at (fold stand (unset_flags n) ls) a x (omega arith) in
      let count : times x ls + flag_at (unset_flags n) x ≡ flag_at (fold stand (unset_flags n) ls) x = counted (unset_flags n) ls m x in
      let start : flag_at (unset_flags n) x ≡ 0 = unset_at n x in
      omega arith;
  others = λ x le. let size : length (unset_flags n) ≡ n = length-replicate n false in within (unset_flags n) ls m x (omega arith);
}

pub meets_of : (n : ℕ) (ls : List ℕ) → EachOnce n ls → meets (unset_flags n) ls ≡ true
meets_of n ls h =
    let size : length (unset_flags n) ≡ n = length-replicate n false in
    meets_from (unset_flags n) ls (λ x. low x (h.once x) (h.others x)) (λ x le. h.others x (omega arith))
  where
    low : (x : ℕ) → (x < n → times x ls ≡ 1) → (n ≤ x → times x ls ≡ 0) → times x ls + flag_at (unset_flags n) x ≤ 1
    low x a b = let start : flag_at (unset_flags n) x ≡ 0 = unset_at n x in elim (cases_lt x n) [ inl lt ↦ let t : times x ls ≡ 1 = a lt in omega arith | inr le ↦ let t : times x ls ≡ 0 = b le in omega arith ]

pub all_of : (n : ℕ) (ls : List ℕ) → EachOnce n ls → list_all (λ b. b) (fold stand (unset_flags n) ls) ≡ true
all_of n ls h =
    let size : length (fold stand (unset_flags n) ls) ≡ n = length-stands (unset_flags n) ls ∙ length-replicate n false in
    all_from (fold stand (unset_flags n) ls) (λ x lt.
    let count : times x ls + flag_at (unset_flags n) x ≡ flag_at (fold stand (unset_flags n) ls) x = counted (unset_flags n) ls (meets_of n ls h) x in
    let start : flag_at (unset_flags n) x ≡ 0 = unset_at n x in
    let one : times x ls ≡ 1 = h.once x (omega arith) in
    omega arith)

-- a list in which some number has no flag that is not set yet
pub not_met : (n : ℕ) (ls : List ℕ) → meets (unset_flags n) ls ≡ false → (false ≡ true) ↔ EachOnce n ls
not_met n ls e = (λ h. absurd cc, λ h. let m : meets (unset_flags n) ls ≡ true = meets_of n ls h in absurd cc)

-- one in which each has, with the flags at the end
pub met : (n : ℕ) (ls : List ℕ) (flags : List Bool) → meets (unset_flags n) ls ≡ true → flags ≡ fold stand (unset_flags n) ls → (list_all (λ b. b) flags ≡ true) ↔ EachOnce n ls
met n ls flags m e = (λ h. each_of n ls m (sym (ap (list_all (λ b. b)) e) ∙ h), λ h. ap (list_all (λ b. b)) e ∙ all_of n ls h)
