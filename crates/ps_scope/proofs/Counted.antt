-- Counts of locals, by number; a number beyond them counts 0.
-- For: widen, count_out, count_of, Scopes::has_local, Scopes::bind, Scopes::leave_one.
use Rattle.std.proofs.Common.{◌≡◌, ◌∙◌, ℕ, zero, suc, ◌+◌, ◌<◌, ◌≤◌, refl, ap, sym, arith, Bool, true, false, ◌||◌, List, [], ◌∷◌, ◌++◌, length, slice_index, nat_lt, eq-eqb}
use Rattle.std.specs.Prelude.{if◌then◌else◌}
use Rattle.std.proofs.lemmas.Bool.Decides.{nat_tests}
use Rattle.ps_pattern.specs.declared.binding.Binding.TheVariants as b
use Rattle.ps_scope.specs.Environments.{Env, is_local, has_local}
use Rattle.ps_scope.specs.InsideScopes.{one_if_local, how_many}

pub one_more : (counts : List ℕ) (l : ℕ) → slice_index (counts ++ 0 ∷ []) l ≡ slice_index counts l
one_more [] zero = refl
one_more [] (suc l) = refl
one_more (n ∷ counts) zero = refl
one_more (n ∷ counts) (suc l) = one_more counts l

pub is_within : (counts : List ℕ) (l : ℕ) → 0 < slice_index counts l → l < length counts
is_within [] l lt = absurd (omega arith)
is_within (n ∷ counts) zero lt = omega arith
is_within (n ∷ counts) (suc l) lt = omega (arith, is_within counts l lt)

pub one_of : (l : ℕ) → one_if_local l (b.Local l) ≡ 1
one_of l = ap (λ t. if t then 1 else 0) (eq-eqb l l refl)

pub has_counted : (env : Env) (l : ℕ) → has_local env l ≡ nat_lt 0 (how_many env l)
has_counted [] l = refl
has_counted (p ∷ env) l = by (is_local l p.binding) (has_counted env l) where
  by : (t : Bool) → has_local env l ≡ nat_lt 0 (how_many env l) → (t || has_local env l) ≡ nat_lt 0 ((if t then 1 else 0) + how_many env l)
  by true h = let t : nat_lt 0 (1 + how_many env l) ≡ true = grind (arith, nat_tests) in sym t
  by false h = let z : 0 + how_many env l ≡ how_many env l = omega arith in h ∙ ap (nat_lt 0) (sym z)

pub how_many_le : (env : Env) (l : ℕ) → how_many env l ≤ length env
how_many_le [] l = omega arith
how_many_le (p ∷ env) l = by (is_local l p.binding) (how_many_le env l) where
  by : (t : Bool) → how_many env l ≤ length env → (if t then 1 else 0) + how_many env l ≤ suc (length env)
  by true h = omega arith
  by false h = omega arith
