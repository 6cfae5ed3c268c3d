-- Different numbers of 32 bits are at most as many as there are of these.
-- For: Numbers::push
use Rattle.std.proofs.Common.{◌≡◌, ℕ, ◌<◌, ◌≤◌, ◌^◌, List, [], ◌∷◌, ◌++◌, length, true, false, nat_eq, sym, ◌∙◌, subst, ⊎_elim}
use Rattle.std.specs.List.{list_any, IsDistinct}
use Rattle.std.proofs.lemmas.Bool.{eqb-true, or_cases}
use Rattle.std.proofs.lemmas.List.Folds.{list_any-append}
use Rattle.std.proofs.lemmas.Map.Steps.{length-le_from_distinct_below}
use Rattle.ps_modules.specs.InsideTables.{AreNumbers}

-- with one number more
pub numbers_more : (numbers : List ℕ) (j : ℕ) → AreNumbers numbers → j < 2 ^ 32 → AreNumbers (numbers ++ j ∷ [])
numbers_more numbers j so small = record {
  below = λ n h. ⊎_elim
      (λ there. so.below n there)
      (λ here. ⊎_elim (λ (same : nat_eq n j ≡ true). subst (λ k. k < 4294967296) (sym (eqb-true n j same)) small) (λ no. absurd (let x : false ≡ true = no in cc)) (or_cases (nat_eq n j) false here))
      (or_cases (list_any (nat_eq n) numbers) (list_any (nat_eq n) (j ∷ [])) (sym (list_any-append (nat_eq n) numbers (j ∷ [])) ∙ h));
}

pub numbers_few : (numbers : List ℕ) → IsDistinct nat_eq numbers → AreNumbers numbers → length numbers ≤ 2 ^ 32
numbers_few numbers once so = length-le_from_distinct_below numbers 4294967296 once so.below
