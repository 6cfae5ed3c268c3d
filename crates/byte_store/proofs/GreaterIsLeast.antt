-- The greater of two numbers is the least that is not below either.
-- For: machine_deepens, and the simulation by the machine of C
use Rattle.std.proofs.Common.{ℕ, ◌≤◌, true, false, cond, nat_lt, arith}
use Rattle.std.proofs.lemmas.Bool.{cond_both, ltb-true, ltb-false}
use Rattle.std.proofs.Math.Dec.{ltb}
use Rattle.byte_store.specs.Machine.{greater}

pub greater_le : (a b m : ℕ) → a ≤ m → b ≤ m → greater a b ≤ m
greater_le a b m h k = elim (nat_lt a b) as (λ v. cond v b a ≤ m) [ true ↦ k | false ↦ h ]

pub greater_ge_left : (a b : ℕ) → a ≤ greater a b
greater_ge_left a b = cond_both (ltb a b) b a (λ x. a ≤ x) (λ e. omega (arith, ltb-true a b e)) (λ e. omega arith)

pub greater_ge_right : (a b : ℕ) → b ≤ greater a b
greater_ge_right a b = cond_both (ltb a b) b a (λ x. b ≤ x) (λ e. omega arith) (λ e. ltb-false a b e)
