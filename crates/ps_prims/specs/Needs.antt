-- What primitives take memory for (this project's own). Read `Takes (need p) stage` as: performing p at the stage takes
-- memory, which may be wanting. A primitive that is in no row here takes none.
use Rattle.std.specs.Prelude.{◌≡◌, ◌<◌, length}
use Rattle.ps_base.specs.declared.language.PrimName.{PrimName}
use Rattle.ps_base.specs.declared.language.PrimName.TheVariants as prims
use Rattle.byte_store.specs.declared.pointer.Value.{Value}
use Rattle.byte_store.specs.Blocks.{Memory, next_number}
use Rattle.ps_prims.specs.declared.outcome.PrimOut.{PrimOut}
use Rattle.ps_prims.specs.declared.outcome.PrimOut.TheVariants as out
use Rattle.ps_prims.specs.declared.stages.Stage.{Stage}
use Rattle.ps_prims.specs.declared.stages.Stage.TheVariants.{Compile, Run}

pub data Need : Type 0 where
  Nothing : Need
  -- at run time, what is seen from outside is listed
  Events : Need
  -- a block is made, or two strings are copied
  Blocks : Need

abbrev pub need : PrimName → Need
need prims.StringLength = Events
need prims.StringRef = Events
need prims.VectorRef = Events
need prims.VectorSet = Events
need prims.DeallocateVector = Events
need prims.ReadByte = Events
need prims.WriteByte = Events
need prims.DeallocateMemory = Events
need prims.UnsignedByteRef = Events
need prims.UnsignedByteSet = Events
need prims.WordRef = Events
need prims.WordSet = Events
need prims.MakeVector = Blocks
need prims.AllocateMemory = Blocks
need prims.StringAppend = Blocks
need prims.StringEqual = Blocks
need (prims.Maker k) = Blocks
need (prims.Accessor k f) = Events
need (prims.Modifier k f) = Events
need p = Nothing

abbrev pub Takes : Need → Stage → Type 0
Takes Nothing stage = ⊥
Takes Events Compile = ⊥
Takes Events Run = Unit {0}
Takes Blocks stage = Unit {0}

-- there is a number for one more block: at compile time for the next fixed one
abbrev pub HasNumber : Stage → Memory Value → Type 0
HasNumber Compile m = next_number m.fixed < 4294967295
HasNumber Run m = length m.made < 4294967295

-- the same, at run time only where a block is made
abbrev pub HasRoom : Need → Stage → Memory Value → Type 0
HasRoom n Compile m = HasNumber Compile m
HasRoom n Run m = n ≡ Blocks → HasNumber Run m

-- where memory was wanting, this holds
abbrev pub Wanting : PrimOut → Type 0 → Type 0
Wanting (out.Value v) holds = Unit {0}
Wanting (out.Undefined op) holds = Unit {0}
Wanting out.Wrong holds = Unit {0}
Wanting out.NoMemory holds = holds
