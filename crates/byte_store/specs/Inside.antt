-- How the code keeps the blocks of a store. No public clause cites this file.
use Rattle.std.specs.Prelude.{◌≡◌, ℕ, ℤ, [], ◌∷◌, Result, Ok, Err}
use Rattle.ps_base.specs.declared.faults.Op.{Op}
use Rattle.byte_store.specs.declared.block.Block.{Block as Kept}
use Rattle.byte_store.specs.declared.block.Block.TheVariants as kept
use Rattle.byte_store.specs.declared.block.Edit.{Edit}
use Rattle.byte_store.specs.declared.block.Edit.TheVariants as edits
use Rattle.byte_store.specs.Blocks.{Block, Bytes, Cells, Freed}
use Rattle.byte_store.specs.Operations.{with_bytes, with_cell, freed}

module _ {C A : Type 0} where
  -- the block that the code's block stands for
  abbrev pub seen : Kept C A → Block C
  seen (kept.Bytes bytes) = Bytes bytes.items
  seen (kept.Cells cells) = Cells cells.items
  seen (kept.Freed n) = Freed n

  abbrev pub seen_numbered : ℕ × Kept C A → ℕ × Block C
  seen_numbered e = (e.0, seen e.1)

module _ {C : Type 0} where
  -- what an edit makes of a block
  abbrev pub edited : Edit C → Block C → ℤ → Result (Block C) Op
  edited (edits.Byte b) = with_bytes (b ∷ [])
  edited (edits.Word bytes) = with_bytes bytes
  edited (edits.Cell c) = with_cell c
  edited edits.Free = freed

  -- a call by code makes of a block what the operation answers, or has the operation's cause and leaves the block as it was
  abbrev pub BecomesBlock : Result (Unit {0}) Op → Block C → Block C → Result (Block C) Op → Type 0
  BecomesBlock (Ok done) old new answer = answer ≡ Ok new
  BecomesBlock (Err op) old new answer = (answer ≡ Err op) × (new ≡ old)

  -- the same of a block that is found or not: where the operation answers, P holds of the answer, and else Q
  abbrev pub Replaces : Result (Unit {0}) Op → Result (Block C) Op → (Block C → Type 0) → Type 0 → Type 0
  Replaces (Ok done) answer P Q = (b : Block C) × (answer ≡ Ok b) × P b
  Replaces (Err op) answer P Q = (answer ≡ Err op) × Q
