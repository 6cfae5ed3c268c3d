-- Division of integers (R5RS 6.2.5), and what the rows of `quotient`, `remainder` and `modulo` have to do with it.
--
-- "n_q is n1/n2 rounded towards zero, 0 < |n_r| < |n2|, 0 < |n_m| < |n2|, n_r and n_m differ from n1 by a multiple of n2, n_r
-- has the same sign as n1, and n_m has the same sign as n2", where n1/n2 is no integer; where it is one, n_q is it, and n_r
-- and n_m are 0. So n1 = n2 n_q + n_r.
use Rattle.std.specs.Prelude.{◌≡◌, ℤ, pos, negsuc, ◌+ℤ◌, ◌-ℤ◌, ◌*ℤ◌, ◌<◌, ◌≤◌, ◌<ℤ◌, unsigned_abs, [], ◌∷◌, true, ◌⊎◌}
use Rattle.ps_base.specs.declared.faults.Op.TheVariants as ops
use Rattle.ps_base.specs.declared.language.PrimName.{PrimName}
use Rattle.ps_base.specs.declared.language.PrimName.TheVariants as prims
use Rattle.ps_base.specs.Numbers.{is_word}
use Rattle.byte_store.specs.declared.pointer.Value.{Value}
use Rattle.byte_store.specs.declared.pointer.Value.TheVariants as value
use Rattle.ps_prims.specs.declared.stages.Stage.{Stage}
use Rattle.ps_prims.specs.Sorts.{first_order}
use Rattle.ps_prims.specs.Rows.{Scene, Performed, Answers, Undefined, perform}

-- both are above 0, or both below
abbrev pub SameSign : ℤ → ℤ → Type 0
SameSign n m = ((pos 0 <ℤ n) × (pos 0 <ℤ m)) ⊎ ((n <ℤ pos 0) × (m <ℤ pos 0))

-- r is what is left of n1 by a division by n2, with the sign of s: it differs from n1 by a multiple of n2
pub record Leaves (n1 n2 s r : ℤ) : Type 0 where
  pub multiple : (k : ℤ) × (n1 ≡ n2 *ℤ k +ℤ r)
  pub less : unsigned_abs r < unsigned_abs n2
  pub sign : (r ≡ pos 0) ⊎ SameSign r s

-- q is n1/n2 rounded toward zero: less than 1 away from it, and no farther from 0
pub record IsRounded (n1 n2 q : ℤ) : Type 0 where
  pub near : unsigned_abs (n1 -ℤ n2 *ℤ q) < unsigned_abs n2
  pub toward_zero : unsigned_abs (n2 *ℤ q) ≤ unsigned_abs n1

-- the quotient, the remainder and the modulo of two integers
pub record Divided (n1 n2 q r m : ℤ) : Type 0 where
  pub quotient : IsRounded n1 n2 q
  pub remainder : Leaves n1 n2 n1 r
  pub whole : n1 ≡ n2 *ℤ q +ℤ r
  pub modulo : Leaves n1 n2 n2 m

-- the quotient of two integers of 64 bits is none of 64 bits
abbrev pub HasNoQuotient : ℤ → ℤ → Type 0
HasNoQuotient n1 n2 = (n2 ≡ pos 0) ⊎ ((n1 ≡ negsuc 9223372036854775807) × (n2 ≡ negsuc 0))

-- the row of this name, at two integers; the kinds of records have nothing to do with it
abbrev pub at_integers : PrimName → ℤ → ℤ → Stage → Scene Value → Performed Value
at_integers p n1 n2 stage s = perform first_order [] p (value.Integer n1 ∷ value.Integer n2 ∷ []) stage s

-- an integer, and nothing is changed or seen
abbrev pub answers_integer : ℤ → Scene Value → Performed Value
answers_integer n s = Answers (record { answer = value.Integer n; memory = s.memory; world = s.world; events = [] })

-- what the rows answer is the quotient, the remainder and the modulo
pub record RowsDivide (n1 n2 : ℤ) (stage : Stage) (s : Scene Value) : Type 0 where
  pub q : ℤ
  pub r : ℤ
  pub m : ℤ
  pub divided : Divided n1 n2 q r m
  pub quotient : at_integers prims.Quotient n1 n2 stage s ≡ answers_integer q s
  pub remainder : at_integers prims.Remainder n1 n2 stage s ≡ answers_integer r s
  pub modulo : at_integers prims.Modulo n1 n2 stage s ≡ answers_integer m s

pub record RowsUndefined (n1 n2 : ℤ) (stage : Stage) (s : Scene Value) : Type 0 where
  pub quotient : at_integers prims.Quotient n1 n2 stage s ≡ Undefined ops.Division
  pub remainder : at_integers prims.Remainder n1 n2 stage s ≡ Undefined ops.Division
  pub modulo : at_integers prims.Modulo n1 n2 stage s ≡ Undefined ops.Division

abbrev pub DivisionsAreRounded : Type 0
DivisionsAreRounded =
    (n1 n2 : ℤ) (stage : Stage) (s : Scene Value) →
    is_word n1 ≡ true → is_word n2 ≡ true → (HasNoQuotient n1 n2 → ⊥) → RowsDivide n1 n2 stage s

abbrev pub DivisionsAreUndefined : Type 0
DivisionsAreUndefined = (n1 n2 : ℤ) (stage : Stage) (s : Scene Value) → HasNoQuotient n1 n2 → RowsUndefined n1 n2 stage s
