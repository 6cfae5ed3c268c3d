-- Numbers in a row.
-- For: `next_locals`
use Rattle.std.proofs.Common.{◌≡◌, ◌∙◌, ℕ, zero, suc, ◌+◌, ◌-◌, ◌<◌, List, [], ◌∷◌, ◌++◌, length, refl, ap, sym, arith, append_assoc}
use Rattle.ps_expansion.specs.States.{numbers_from}

-- the first one, and those behind it
numbers_more : (first n m : ℕ) → n ≡ suc m → numbers_from first n ≡ first ∷ numbers_from (first + 1) m
numbers_more first zero m e = absurd (omega arith)
numbers_more first (suc n) m e = ap (λ (k : ℕ). first ∷ numbers_from (first + 1) k) (let f : n ≡ m = omega arith in f)

pub numbers_step : (all : List ℕ) (first i count : ℕ) → i < count → (all ++ (first + i) ∷ []) ++ numbers_from (first + (i + 1)) (count - (i + 1)) ≡ all ++ numbers_from (first + i) (count - i)
numbers_step all first i count less =
    let step : numbers_from (first + i) (count - i) ≡ (first + i) ∷ numbers_from ((first + i) + 1) (count - (i + 1)) = numbers_more (first + i) (count - i) (count - (i + 1)) (omega arith) in
    let next : (first + i) + 1 ≡ first + (i + 1) = omega arith in
    rw append_assoc (sym (ap (λ (xs : List ℕ). all ++ xs) (step ∙ ap (λ (k : ℕ). (first + i) ∷ numbers_from k (count - (i + 1))) next)))

pub numbers_length : (first n : ℕ) → length (numbers_from first n) ≡ n
numbers_length first zero = refl
numbers_length first (suc n) = ap suc (numbers_length (first + 1) n)
