-- The cells of memories, and how many of them primitives ask for (this project's own).
--
-- Read `asked_at values kinds p vs stage s` as a column of the table: how many cells the primitive p makes at these operands,
-- said before it takes effect. A vector and a record have their cells, a string of L bytes (L + 8) / 8 of them and a block of n
-- bytes (n + 7) / 8, rounded down. An allocation that is refused at run time makes none, and neither does what is undefined or
-- wrong.
use Rattle.std.specs.Prelude.{ℕ, ℤ, pos, negsuc, ◌+◌, ◌/◌, List, length, map, drop, if◌then◌else◌, Option, Some, None, Result, Ok, Err}
use Rattle.ps_base.specs.Numbers.{sum_of}
use Rattle.ps_base.specs.declared.faults.Op.{Op}
use Rattle.ps_base.specs.declared.language.PrimName.{PrimName}
use Rattle.ps_base.specs.declared.language.PrimName.TheVariants as prims
use Rattle.byte_store.specs.Worlds.{next_grant}
use Rattle.byte_store.specs.Blocks.{Memory, Block, Bytes, Cells, Freed}
use Rattle.byte_store.specs.Operations.{is_size, text}
use Rattle.ps_types.specs.declared.types.RecordKind.{RecordKind}
use Rattle.ps_prims.specs.declared.stages.Stage.{Stage}
use Rattle.ps_prims.specs.declared.stages.Stage.TheVariants.{Compile, Run}
use Rattle.ps_prims.specs.Sorts.{Values, Taking, applied, collecting}
use Rattle.ps_prims.specs.Records.{fields}
use Rattle.ps_prims.specs.Rows.{Scene, row}

-- ---- the cells of a memory

module _ {V : Type 0} where
  -- a block of bytes counts as many cells of eight bytes as hold it
  abbrev pub cells_of : Block V → ℕ
  cells_of (Bytes bytes) = (length bytes + 7) / 8
  cells_of (Cells cells) = length cells
  cells_of (Freed n) = 0

  abbrev pub cells_in : List (Block V) → ℕ
  cells_in bs = sum_of (map cells_of bs)

  -- the blocks of numbered ones
  abbrev pub blocks_in : List (ℕ × Block V) → List (Block V)
  blocks_in es = map (λ (e : ℕ × Block V). e.1) es

  -- the cells of the blocks that the second memory has beyond those of the first
  abbrev pub cells_between : Memory V → Memory V → ℕ
  cells_between m m' = cells_in (drop (length m.made) m'.made) + cells_in (drop (length m.fixed) (blocks_in m'.fixed))

-- ---- the cells that are asked for

-- as many cells, or as many bytes, as a block may have
abbrev pub for_cells : ℤ → ℕ
for_cells (pos n) = if is_size n then n else 0
for_cells (negsuc n) = 0

abbrev pub for_bytes : ℤ → ℕ
for_bytes (pos n) = if is_size n then (n + 7) / 8 else 0
for_bytes (negsuc n) = 0

-- two strings, one behind the other, where both are there
abbrev pub for_texts : Result (List ℕ) Op → Result (List ℕ) Op → ℕ
for_texts (Ok a) (Ok b) = (length a + length b + 8) / 8
for_texts (Ok a) (Err op) = 0
for_texts (Err op) r = 0

module _ {V : Type 0} where
  -- nothing is asked for where the operands do not fit
  abbrev pub counted : Option (Memory V → ℕ) → Memory V → ℕ
  counted None m = 0
  counted (Some ask) m = ask m

  -- at run time an allocation may be refused, and then nothing is made
  abbrev pub where_granted : (Memory V → ℕ) → Stage → Scene V → ℕ
  where_granted ask Compile s = ask s.memory
  where_granted ask Run s = if next_grant s.world.grants then ask s.memory else 0

module _ {V : Type 0} (values : Values V) (kinds : List RecordKind) where
  abbrev pub asks : (p : PrimName) → Taking V (row values kinds p).operands (Memory V → ℕ)
  asks prims.MakeVector = λ n x m. for_cells n
  asks prims.AllocateMemory = λ n m. for_bytes n
  asks prims.StringAppend = λ p q m. for_texts (text m p) (text m q)
  asks (prims.Maker k) = collecting values (row values kinds (prims.Maker k)).operands (λ vs m. for_cells (pos (length (fields kinds k))))
  asks p = collecting values (row values kinds p).operands (λ vs m. 0)

  -- the cells that a primitive asks for at these operands
  abbrev pub asked : PrimName → List V → Memory V → ℕ
  asked p vs = counted (applied values (row values kinds p).operands (asks p) vs)

  -- the same at a stage
  abbrev pub asked_at : PrimName → List V → Stage → Scene V → ℕ
  asked_at p vs = where_granted (asked p vs)
