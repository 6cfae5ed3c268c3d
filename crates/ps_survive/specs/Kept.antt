-- The survivors of a walk, with their contents (this project's own).
--
-- Read `IsSurvivors p s` as: the walk of program p ends well, and s has what it saw: the procedure definitions in the order in
-- which they were seen, the blocks and the other definitions in order of their numbers, each with what the forms of p left there.
-- What forms leave has null addresses alone, strings, vectors and records that begin at the start of a fixed block, and cells
-- that are set (`Left.antt` of `ps_meaning`). So no value is changed by being copied; for anything else the copy has 0 or unit.
use Rattle.std.specs.Prelude.{◌≡◌, ℕ, suc, Bool, if◌then◌else◌, List, [], ◌∷◌, ◌++◌, Option, Some, None}
use Rattle.byte_store.specs.declared.pointer.Base.TheVariants.{Fixed, Made}
use Rattle.byte_store.specs.declared.pointer.Pointer.{Pointer}
use Rattle.byte_store.specs.declared.pointer.Pointer.TheVariants.{Null, At}
use Rattle.byte_store.specs.declared.pointer.Value.{Value}
use Rattle.byte_store.specs.declared.pointer.Value.TheVariants as values
use Rattle.byte_store.specs.Blocks.{Block, Bytes, Cells, Freed}
use Rattle.ps_kernel.specs.declared.survivors.Kept.{Kept}
use Rattle.ps_kernel.specs.declared.survivors.Kept.TheVariants as kept
use Rattle.ps_kernel.specs.declared.survivors.KeptBlock.{KeptBlock}
use Rattle.ps_kernel.specs.declared.survivors.KeptBlock.TheVariants as contents
use Rattle.ps_kernel.specs.declared.survivors.KeptProcedure.{KeptProcedure}
use Rattle.ps_kernel.specs.declared.survivors.KeptGlobal.{KeptGlobal}
use Rattle.ps_kernel.specs.declared.survivors.NumberedBlock.{NumberedBlock}
use Rattle.ps_kernel.specs.declared.survivors.Survivors.{Survivors}
use Rattle.ps_kernel.specs.Texts.{procedure_of}
use Rattle.ps_meaning.specs.Source.{Program}
use Rattle.ps_survive.specs.declared.steps.Node.{Node}
use Rattle.ps_survive.specs.declared.steps.Node.TheVariants as nodes
use Rattle.ps_survive.specs.Steps.{has}
use Rattle.ps_survive.specs.Walk.{Ended, Survives}

-- the number of the block that a pointer leads to
abbrev pub number_of : Pointer → ℕ
number_of Null = 0
number_of (At (Fixed b) offset) = b
number_of (At (Made b) offset) = 0

abbrev pub kept_value : Value → Kept
kept_value (values.Integer i) = kept.Integer i
kept_value (values.Boolean b) = kept.Boolean b
kept_value (values.Char c) = kept.Char c
kept_value values.Unit = kept.Unit
kept_value (values.Address p) = kept.NullAddress
kept_value (values.Text p) = kept.Text (number_of p)
kept_value (values.Vector p) = kept.Vector (number_of p)
kept_value (values.Tuple k p) = kept.Tuple k (number_of p)

abbrev pub kept_bytes : List (Option ℕ) → List ℕ
kept_bytes [] = []
kept_bytes (None ∷ bs) = 0 ∷ kept_bytes bs
kept_bytes (Some b ∷ bs) = b ∷ kept_bytes bs

abbrev pub kept_cells : List (Option Value) → List Kept
kept_cells [] = []
kept_cells (None ∷ cs) = kept.Unit ∷ kept_cells cs
kept_cells (Some v ∷ cs) = kept_value v ∷ kept_cells cs

abbrev pub kept_block : Block Value → KeptBlock
kept_block (Bytes bytes) = contents.Bytes (kept_bytes bytes)
kept_block (Cells cells) = contents.Cells (kept_cells cells)
kept_block (Freed n) = contents.Bytes []

-- the procedures among nodes, in their order
abbrev pub procedure_at : ℕ → Option ℕ → List KeptProcedure
procedure_at g None = []
procedure_at g (Some l) = record { definition = g; lambda = l } ∷ []

abbrev pub procedure_in : Program → Node → List KeptProcedure
procedure_in p (nodes.Global g) = procedure_at g (procedure_of p.kernel g)
procedure_in p (nodes.Inner l) = []
procedure_in p (nodes.Data b) = []

abbrev pub procedures : Program → List Node → List KeptProcedure
procedures p [] = []
procedures p (n ∷ ns) = procedure_in p n ++ procedures p ns

-- the other definitions, from number g on
abbrev pub global_at : Bool → ℕ → Option ℕ → Option Value → List KeptGlobal
global_at seen g (Some l) v = []
global_at seen g None None = []
global_at seen g None (Some v) = if seen then record { number = g; value = kept_value v } ∷ [] else []

abbrev pub globals : Program → (Node → Bool) → ℕ → List (Option Value) → List KeptGlobal
globals p seen g [] = []
globals p seen g (v ∷ vs) = global_at (seen (nodes.Global g)) g (procedure_of p.kernel g) v ++ globals p seen (suc g) vs

-- the fixed blocks stand in order of their numbers
abbrev pub blocks : (Node → Bool) → List (ℕ × Block Value) → List NumberedBlock
blocks seen [] = []
blocks seen (e ∷ es) = if seen (nodes.Data e.0) then record { number = e.0; block = kept_block e.1 } ∷ blocks seen es else blocks seen es

abbrev pub survivors : Program → List Node → (Node → Bool) → Survivors
survivors p order seen = record { procedures = procedures p order; blocks = blocks seen p.memory.fixed; globals = globals p seen 0 p.globals; main = p.kernel.main }

-- the survivors of a walk that ends well
pub record IsSurvivors (p : Program) (s : Survivors) : Type 0 where
  pub found : List Node
  pub walk : Survives p (Ended found)
  pub is : s ≡ survivors p found (has found)
