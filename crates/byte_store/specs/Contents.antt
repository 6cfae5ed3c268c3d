-- What the code lends of a store's blocks (this project's own).
--
-- Read `lent contents` as 'the block that has these contents'.
use Rattle.std.specs.Prelude.{ℕ}
use Rattle.byte_store.specs.declared.fixed.Contents.{Contents}
use Rattle.byte_store.specs.declared.fixed.Contents.TheVariants as contents
use Rattle.byte_store.specs.Blocks.{Block, Bytes, Cells, Freed}

module _ {C : Type 0} where
  abbrev pub lent : Contents C → Block C
  lent (contents.Bytes bytes) = Bytes bytes.now
  lent (contents.Cells cells) = Cells cells.now
  lent (contents.Freed n) = Freed n

  abbrev pub lent_numbered : ℕ × Contents C → ℕ × Block C
  lent_numbered e = (e.0, lent e.1)
