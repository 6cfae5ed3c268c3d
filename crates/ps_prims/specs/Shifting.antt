-- What shifts are (two's complement of 64 bits), and what their rows have to do with it.
use Rattle.std.specs.Prelude.{◌≡◌, ℕ, ℤ, pos, ◌^◌, ◌+ℤ◌, ◌*ℤ◌, ◌<◌, ◌<ℤ◌, ◌≤ℤ◌, ◌⊎◌}
use Rattle.ps_base.specs.declared.faults.Op.TheVariants as ops
use Rattle.ps_base.specs.declared.language.PrimName.TheVariants as prims
use Rattle.byte_store.specs.declared.pointer.Value.{Value}
use Rattle.ps_prims.specs.declared.stages.Stage.{Stage}
use Rattle.ps_prims.specs.Rows.{Scene, Undefined}
use Rattle.ps_prims.specs.Division.{at_integers, answers_integer}

-- q is the greatest integer that is not above n / 2^k
pub record RoundedDown (n : ℤ) (k : ℕ) (q : ℤ) : Type 0 where
  pub not_above : (q *ℤ pos (2 ^ k)) ≤ℤ n
  pub greatest : n <ℤ ((q *ℤ pos (2 ^ k)) +ℤ pos (2 ^ k))

pub record RowShifts (n : ℤ) (k : ℕ) (stage : Stage) (s : Scene Value) : Type 0 where
  pub q : ℤ
  pub rounded : RoundedDown n k q
  pub answer : at_integers prims.ArithmeticShiftRight n (pos k) stage s ≡ answers_integer q s

pub record RowsShiftNot (n c : ℤ) (stage : Stage) (s : Scene Value) : Type 0 where
  pub left : at_integers prims.ShiftLeft n c stage s ≡ Undefined ops.Shift
  pub arithmetic : at_integers prims.ArithmeticShiftRight n c stage s ≡ Undefined ops.Shift
  pub logical : at_integers prims.LogicalShiftRight n c stage s ≡ Undefined ops.Shift

abbrev pub ShiftsRoundDown : Type 0
ShiftsRoundDown = (n : ℤ) (k : ℕ) (stage : Stage) (s : Scene Value) → k < 64 → RowShifts n k stage s

abbrev pub ShiftsAreUndefined : Type 0
ShiftsAreUndefined = (n c : ℤ) (stage : Stage) (s : Scene Value) → (c <ℤ pos 0) ⊎ (pos 64 ≤ℤ c) → RowsShiftNot n c stage s
