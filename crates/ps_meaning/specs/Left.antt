-- What the forms of a kernel leave behind, when all of them were evaluated (this project's own).
--
-- Read `IsLeft kinds globals memory` as: no block was made at run time; a string leads to the start of a fixed block of bytes
-- that ends with 0, a vector and a record to the start of a fixed block of cells, of which a record has one for each field; an
-- address is null; and each cell has such a value. So what is left can be copied into a program as it stands.
use Rattle.std.specs.Prelude.{◌≡◌, ℕ, ℤ, pos, List, [], ◌∷◌, ◌++◌, length, map, Option, Some, None}
use Rattle.byte_store.specs.declared.pointer.Pointer.{Pointer}
use Rattle.byte_store.specs.declared.pointer.Pointer.TheVariants.{Null, At}
use Rattle.byte_store.specs.declared.pointer.Base.TheVariants.{Fixed}
use Rattle.byte_store.specs.declared.pointer.Value.{Value}
use Rattle.byte_store.specs.declared.pointer.Value.TheVariants as value
use Rattle.byte_store.specs.Blocks.{Memory, Block, Bytes, Cells, Freed, find}
use Rattle.ps_types.specs.declared.types.RecordKind.{RecordKind}
use Rattle.ps_prims.specs.Kinds.{AreKinds}
use Rattle.ps_prims.specs.Records.{fields}
use Rattle.ps_kernel.specs.declared.kernel.Kernel.{Kernel}
use Rattle.ps_meaning.specs.Source.{Top, Finished}

-- a string in a block: bytes that are set, and 0 behind them
pub record IsText (b : Option (Block Value)) : Type 0 where
  pub bytes : List ℕ
  pub is : b ≡ Some (Bytes (map Some (bytes ++ 0 ∷ [])))

-- so many cells in a block
pub record HasCells (b : Option (Block Value)) : Type 0 where
  pub cells : List (Option Value)
  pub is : b ≡ Some (Cells cells)

pub record HasFields (n : ℕ) (b : Option (Block Value)) : Type 0 where
  pub cells : List (Option Value)
  pub is : b ≡ Some (Cells cells)
  pub all : length cells ≡ n

-- a pointer to the start of a fixed block, which is such a one
pub record LeadsTo (m : Memory Value) (P : Option (Block Value) → Type 0) (p : Pointer) : Type 0 where
  pub number : ℕ
  pub is : p ≡ At (Fixed number) (pos 0)
  pub block : P (find number m.fixed)

module _ (kinds : List RecordKind) (m : Memory Value) where
  abbrev pub IsLeftValue : Value → Type 0
  IsLeftValue (value.Integer i) = Unit {0}
  IsLeftValue (value.Boolean b) = Unit {0}
  IsLeftValue (value.Char c) = Unit {0}
  IsLeftValue value.Unit = Unit {0}
  IsLeftValue (value.Address p) = p ≡ Null
  IsLeftValue (value.Text p) = LeadsTo m IsText p
  IsLeftValue (value.Vector p) = LeadsTo m HasCells p
  IsLeftValue (value.Tuple k p) = LeadsTo m (HasFields (length (fields kinds k))) p

  abbrev pub IsLeftOption : Option Value → Type 0
  IsLeftOption None = Unit {0}
  IsLeftOption (Some v) = IsLeftValue v

  -- a cell is set
  abbrev pub IsLeftCell : Option Value → Type 0
  IsLeftCell None = ⊥
  IsLeftCell (Some v) = IsLeftValue v

  abbrev pub AreLeftCells : List (Option Value) → Type 0
  AreLeftCells [] = Unit {0}
  AreLeftCells (c ∷ cs) = IsLeftCell c × AreLeftCells cs

  abbrev pub IsLeftBlock : Block Value → Type 0
  IsLeftBlock (Bytes bytes) = IsText (Some (Bytes bytes))
  IsLeftBlock (Cells cells) = AreLeftCells cells
  IsLeftBlock (Freed n) = ⊥

  abbrev pub AreLeftBlocks : List (ℕ × Block Value) → Type 0
  AreLeftBlocks [] = Unit {0}
  AreLeftBlocks (e ∷ es) = IsLeftBlock e.1 × AreLeftBlocks es

  abbrev pub AreLeftGlobals : List (Option Value) → Type 0
  AreLeftGlobals [] = Unit {0}
  AreLeftGlobals (g ∷ gs) = IsLeftOption g × AreLeftGlobals gs

pub record IsLeft (kinds : List RecordKind) (globals : List (Option Value)) (m : Memory Value) : Type 0 where
  pub none_made : m.made ≡ []
  pub fixed : AreLeftBlocks kinds m m.fixed
  pub values : AreLeftGlobals kinds m globals

-- the forms of a kernel leave it, within each budget and with however many cells
abbrev pub FormsLeave : Type 0
FormsLeave = (k : Kernel) (budget cells : ℕ) (globals : List (Option Value)) (m : Memory Value) → AreKinds k.kinds →
    Top k budget cells ≡ Finished globals m → IsLeft k.kinds globals m
