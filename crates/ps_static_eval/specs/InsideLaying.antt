-- Literals that are laid out one after another. No public clause cites this file.
use Rattle.std.specs.Prelude.{ℕ, suc, ◌-◌, nat_le, List, [], ◌∷◌, ◌++◌, map, Option, Some, None, if◌then◌else◌}
use Rattle.byte_store.specs.declared.pointer.Value.{Value}
use Rattle.byte_store.specs.Blocks.{Block, Bytes, Cells, Memory}
use Rattle.ps_datum.specs.declared.datum.Datum.{Datum}
use Rattle.ps_meaning.specs.Literals.{laid, lay_parts, numbered}

-- a memory of fixed blocks from number 0 on, in which nothing was made
abbrev pub filled : List (Block Value) → Memory Value
filled bs = record { fixed = numbered 0 bs; made = [] }

-- what is left of so many cells where n are paid for, if there are so many
abbrev pub left_after : ℕ → ℕ → Option ℕ
left_after n cells = if nat_le n cells then Some (cells - n) else None

-- the block of a string
abbrev pub text_block : List ℕ → Block Value
text_block bytes = Bytes (map Some (bytes ++ 0 ∷ []))

-- the block of a vector, which has this number
abbrev pub vector_block : List Datum → ℕ → Block Value
vector_block ds n = Cells (map Some (lay_parts (map laid ds) (suc n)).values)
