-- What the walk from `main` visits, what there is to do there, and where that leads (this project's own).
--
-- Three kinds of nodes are visited: definitions, the bodies of lambdas, and the blocks that the top-level forms left. Read
-- `steps_of p n` as: what there is to do at node n of program p, in order. Read `names p s` as: the node that a step leads to. It
-- is none where the step leads nowhere, and where the kernel or the memory has no entry for its number. Read `fault p s` as: why
-- the step may not stand in what goes on, and where it stands. Data has no fault, so no place of data is told.
use Rattle.std.specs.Prelude.{ℕ, nat_eq, Bool, true, false, ◌||◌, List, [], ◌∷◌, map, Option, Some, None, is_some, slice_get}
use Rattle.std.specs.Prelude.{◌≡◌}
use Rattle.ps_base.specs.declared.faults.Place.{Place}
use Rattle.ps_base.specs.declared.faults.SurviveKind.{SurviveKind}
use Rattle.ps_base.specs.declared.faults.SurviveKind.TheVariants as kinds
use Rattle.byte_store.specs.declared.pointer.Base.TheVariants.{Fixed, Made}
use Rattle.byte_store.specs.declared.pointer.Pointer.{Pointer}
use Rattle.byte_store.specs.declared.pointer.Pointer.TheVariants.{Null, At}
use Rattle.byte_store.specs.declared.pointer.Value.{Value}
use Rattle.byte_store.specs.declared.pointer.Value.TheVariants as values
use Rattle.byte_store.specs.Blocks.{Block, Bytes, Cells, Freed, find}
use Rattle.ps_prims.specs.declared.stages.Stages.{Stages}
use Rattle.ps_prims.specs.declared.stages.Stages.TheVariants.{Both, CompileOnly, RunOnly}
use Rattle.ps_prims.specs.Sorts.{first_order}
use Rattle.ps_prims.specs.Rows.{row}
use Rattle.ps_kernel.specs.declared.kernel.Lambda.{Lambda}
use Rattle.ps_kernel.specs.Texts.{procedure_of}
use Rattle.ps_meaning.specs.Eval.{literal}
use Rattle.ps_meaning.specs.Source.{Program}
use Rattle.ps_survive.specs.declared.steps.Mark.{Mark}
use Rattle.ps_survive.specs.declared.steps.Mark.TheVariants as marks
use Rattle.ps_survive.specs.declared.steps.Node.{Node}
use Rattle.ps_survive.specs.declared.steps.Node.TheVariants as nodes
use Rattle.ps_survive.specs.declared.steps.Step.{Step}
use Rattle.ps_survive.specs.declared.steps.Step.TheVariants as steps
use Rattle.ps_survive.specs.Bodies.{marks_of}

-- ---- nodes in lists

abbrev pub same : Node → Node → Bool
same (nodes.Global g) (nodes.Global h) = nat_eq g h
same (nodes.Inner l) (nodes.Inner k) = nat_eq l k
same (nodes.Data b) (nodes.Data c) = nat_eq b c
same (nodes.Global g) (nodes.Inner k) = false
same (nodes.Global g) (nodes.Data c) = false
same (nodes.Inner l) (nodes.Global h) = false
same (nodes.Inner l) (nodes.Data c) = false
same (nodes.Data b) (nodes.Global h) = false
same (nodes.Data b) (nodes.Inner k) = false

-- the node is in the list
abbrev pub has : List Node → Node → Bool
has [] n = false
has (m ∷ ms) n = same m n || has ms n

-- no node is in the list twice
abbrev pub AreOnce : List Node → Type 0
AreOnce [] = Unit {0}
AreOnce (n ∷ ns) = (has ns n ≡ false) × AreOnce ns

-- ---- what there is to do

abbrev pub body_steps : Option Lambda → List Step
body_steps None = []
body_steps (Some l) = map steps.Does (marks_of l.body)

-- the values of cells that are set
abbrev pub cell_steps : List (Option Value) → List Step
cell_steps [] = []
cell_steps (None ∷ cs) = cell_steps cs
cell_steps (Some v ∷ cs) = steps.Keeps v ∷ cell_steps cs

abbrev pub block_steps : Option (Block Value) → List Step
block_steps None = []
block_steps (Some (Bytes bytes)) = []
block_steps (Some (Cells cells)) = cell_steps cells
block_steps (Some (Freed n)) = []

abbrev pub value_steps : Option (Option Value) → List Step
value_steps None = []
value_steps (Some None) = []
value_steps (Some (Some v)) = steps.Keeps v ∷ []

-- a fault, and its place
pub record Fault : Type 0 where
  pub kind : SurviveKind
  pub at : Place

-- a fault, where something is one
abbrev pub faulty : SurviveKind → Place → Bool → Option Fault
faulty kind at true = Some (record { kind = kind; at = at })
faulty kind at false = None

abbrev pub is_compile_only : Stages → Bool
is_compile_only Both = false
is_compile_only CompileOnly = true
is_compile_only RunOnly = false

-- the node, where it has its entry
abbrev pub if_there : {A : Type 0} → Option A → Node → Option Node
if_there None n = None
if_there (Some x) n = Some n

module _ (p : Program) where
  -- a procedure definition leads to its lambda, any other to its value
  abbrev pub global_steps : ℕ → Option ℕ → List Step
  global_steps g (Some l) = steps.Enters l ∷ []
  global_steps g None = value_steps (slice_get p.globals g)

  abbrev pub steps_of : Node → List Step
  steps_of (nodes.Global g) = global_steps g (procedure_of p.kernel g)
  steps_of (nodes.Inner l) = body_steps (slice_get p.kernel.lambdas l)
  steps_of (nodes.Data b) = block_steps (find b p.memory.fixed)

  -- ---- where it leads

  abbrev pub pointer_names : Pointer → Option Node
  pointer_names Null = None
  pointer_names (At (Fixed b) offset) = if_there (find b p.memory.fixed) (nodes.Data b)
  pointer_names (At (Made b) offset) = None

  abbrev pub value_names : Value → Option Node
  value_names (values.Integer i) = None
  value_names (values.Boolean b) = None
  value_names (values.Char c) = None
  value_names values.Unit = None
  value_names (values.Address q) = pointer_names q
  value_names (values.Text q) = pointer_names q
  value_names (values.Vector q) = pointer_names q
  value_names (values.Tuple k q) = pointer_names q

  abbrev pub literal_names : Option Value → Option Node
  literal_names None = None
  literal_names (Some v) = value_names v

  abbrev pub mark_names : Mark → Option Node
  mark_names (marks.Reads g) = if_there (slice_get p.kernel.definitions g) (nodes.Global g)
  mark_names (marks.Assigns g) = if_there (slice_get p.kernel.definitions g) (nodes.Global g)
  mark_names (marks.Quotes q) = literal_names (literal p.kernel q)
  mark_names (marks.Performs o) = None
  mark_names (marks.Stands l) = if_there (slice_get p.kernel.lambdas l) (nodes.Inner l)

  abbrev pub names : Step → Option Node
  names (steps.Does d) = mark_names d.mark
  names (steps.Enters l) = if_there (slice_get p.kernel.lambdas l) (nodes.Inner l)
  names (steps.Keeps v) = value_names v

  -- ---- what is wrong with it

  -- a primitive for compile time alone, and an assignment of a procedure definition
  abbrev pub mark_fault : Place → Mark → Option Fault
  mark_fault at (marks.Reads g) = None
  mark_fault at (marks.Assigns g) = faulty kinds.ProcedureAssigned at (is_some (procedure_of p.kernel g))
  mark_fault at (marks.Quotes q) = None
  mark_fault at (marks.Performs o) = faulty kinds.CompileOnly at (is_compile_only (row first_order p.kernel.kinds o).stages)
  mark_fault at (marks.Stands l) = None

  abbrev pub fault : Step → Option Fault
  fault (steps.Does d) = mark_fault d.at d.mark
  fault (steps.Enters l) = None
  fault (steps.Keeps v) = None
