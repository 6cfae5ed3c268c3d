-- The types of data that a program begins with (this project's own).
--
-- Read `IsData kinds blocks v t` as: the kept value v, which may lead to these blocks, has type t. A vector has a type where all
-- its cells have one type, and it has a cell; a record has the type of its kind where each cell has the type of its field. So a
-- vector that holds itself has no type, and a record that holds itself may have one. Read `Layouts` as what is taken for granted
-- of blocks while the cells of each are looked at: it is right (`AreLaid`) where the cells of each block are as its layout says.
use Rattle.std.specs.Prelude.{◌≡◌, ℕ, ◌≤◌, ◌==◌, if◌then◌else◌, List, [], ◌∷◌, Option, Some, None}
use Rattle.ps_types.specs.declared.types.Ty.{Ty}
use Rattle.ps_types.specs.declared.types.Ty.TheVariants as ty
use Rattle.ps_types.specs.declared.types.RecordKind.{RecordKind}
use Rattle.ps_types.specs.Substitutions.{size}
use Rattle.ps_prims.specs.Records.{fields}
use Rattle.ps_kernel.specs.declared.survivors.Kept.{Kept}
use Rattle.ps_kernel.specs.declared.survivors.Kept.TheVariants as kept
use Rattle.ps_kernel.specs.declared.survivors.KeptBlock.{KeptBlock}
use Rattle.ps_kernel.specs.declared.survivors.KeptBlock.TheVariants.{Bytes, Cells}
use Rattle.ps_kernel.specs.declared.survivors.NumberedBlock.{NumberedBlock}
use Rattle.ps_kernel.specs.Lists.{Among}

-- no type has more constructors and variables than this
abbrev pub most_parts : ℕ
most_parts = 1000

pub record IsSmall (t : Ty) : Type 0 where
  pub small : size t ≤ most_parts

-- the cells of a vector have one type, and those of a record the types of the fields of its kind
pub data Layout : Type 0 where
  Members : (type : Ty) → Layout
  Fields : (kind : ℕ) → Layout

-- blocks by their numbers, each with a layout
abbrev pub Layouts : Type 0
Layouts = List (ℕ × Layout)

module _ (layouts : Layouts) where
  -- a value has a type, where blocks have these layouts
  abbrev pub has_type : Kept → Ty → Type 0
  has_type (kept.Integer i) t = t ≡ ty.Integer
  has_type (kept.Boolean b) t = t ≡ ty.Boolean
  has_type (kept.Char c) t = t ≡ ty.Char
  has_type kept.Unit t = t ≡ ty.Unit
  has_type kept.NullAddress t = t ≡ ty.Address
  has_type (kept.Text b) t = t ≡ ty.Text
  has_type (kept.Vector b) t = (u : Ty) × (t ≡ ty.Vector u) × Among (b, Members u) layouts
  has_type (kept.Tuple k b) t = (t ≡ ty.Tuple k) × Among (b, Fields k) layouts

  pub record IsCell (v : Kept) (t : Ty) : Type 0 where
    pub has : has_type v t
    pub small : IsSmall t

  -- there is a cell, and all have this type
  abbrev pub members_have : List Kept → Ty → Type 0
  members_have [] t = ⊥
  members_have (v ∷ []) t = IsCell v t
  members_have (v ∷ w ∷ vs) t = IsCell v t × members_have (w ∷ vs) t

  -- cells have the types of fields, in order
  abbrev pub fields_have : List Kept → List Ty → Type 0
  fields_have [] [] = Unit {0}
  fields_have [] (t ∷ ts) = ⊥
  fields_have (v ∷ vs) [] = ⊥
  fields_have (v ∷ vs) (t ∷ ts) = IsCell v t × fields_have vs ts

  abbrev pub cells_have : List RecordKind → List Kept → Layout → Type 0
  cells_have kinds vs (Members t) = members_have vs t
  cells_have kinds vs (Fields k) = fields_have vs (fields kinds k)

  -- a block is of cells, which are as a layout says
  abbrev pub block_has : List RecordKind → Option KeptBlock → Layout → Type 0
  block_has kinds None y = ⊥
  block_has kinds (Some (Bytes bytes)) y = ⊥
  block_has kinds (Some (Cells vs)) y = cells_have kinds vs y

-- the block of a number
abbrev pub block_at : ℕ → List NumberedBlock → Option KeptBlock
block_at b [] = None
block_at b (n ∷ ns) = if b == n.number then Some n.block else block_at b ns

-- the cells of each block are as its layout says
pub record AreLaid (kinds : List RecordKind) (blocks : List NumberedBlock) (layouts : Layouts) : Type 0 where
  pub each : (b : ℕ) (y : Layout) → Among (b, y) layouts → block_has layouts kinds (block_at b blocks) y

pub record IsData (kinds : List RecordKind) (blocks : List NumberedBlock) (v : Kept) (t : Ty) : Type 0 where
  pub layouts : Layouts
  pub laid : AreLaid kinds blocks layouts
  pub has : has_type layouts v t
