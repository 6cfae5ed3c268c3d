-- How the code walks: what its frames and tables stand for. No public clause cites this file.
use Rattle.std.specs.Prelude.{◌≡◌, ◌<◌, ℕ, Bool, true, false, if◌then◌else◌, List, [], ◌∷◌, ◌++◌, length, map, drop, replicate, Option, Some, None, Result, Ok, Err, slice_index_or, slice_set}
use Rattle.ps_base.specs.declared.faults.Place.{Place}
use Rattle.ps_base.specs.declared.faults.SurviveKind.{SurviveKind}
use Rattle.ps_base.specs.declared.faults.Fault.{Fault as Refused}
use Rattle.ps_base.specs.declared.faults.Fault.TheVariants as faults
use Rattle.ps_base.specs.declared.faults.Refusal.{Refusal}
use Rattle.ps_base.specs.declared.faults.Refusal.TheVariants as refusals
use Rattle.byte_store.specs.declared.pointer.Value.{Value}
use Rattle.byte_store.specs.Blocks.{Block, Bytes, Cells, Freed, find, next_number}
use Rattle.ps_kernel.specs.declared.kernel.Form.{Form}
use Rattle.ps_kernel.specs.declared.kernel.Form.TheVariants.{Define, Do}
use Rattle.ps_kernel.specs.declared.survivors.NumberedBlock.{NumberedBlock}
use Rattle.ps_kernel.specs.Texts.{lambda_in, defined_by, procedure_of}
use Rattle.ps_kernel.specs.Valid.{IsValid}
use Rattle.ps_meaning.specs.Literals.{lay_all}
use Rattle.ps_meaning.specs.Source.{Program}
use Rattle.ps_survive.specs.declared.steps.Node.{Node}
use Rattle.ps_survive.specs.declared.steps.Node.TheVariants as nodes
use Rattle.ps_survive.specs.declared.steps.Step.{Step}
use Rattle.ps_survive.specs.declared.steps.Step.TheVariants as steps
use Rattle.ps_survive.specs.Steps.{Fault, has, cell_steps, steps_of, names, fault}
use Rattle.ps_survive.specs.Walk.{main_node, End, Ended, Walks, Survives}
use Rattle.ps_survive.specs.Kept.{kept_block}
use Rattle.ps_reify.specs.Answers.{RefusesFault}
use Rattle.ps_reify.specs.declared.image.Image.{Image}
use Rattle.ps_reify.specs.declared.find.Part.{Part}
use Rattle.ps_reify.specs.declared.find.Part.TheVariants as parts
use Rattle.ps_reify.specs.declared.find.Frame.{Frame}
use Rattle.ps_reify.specs.declared.find.Walk.{Walk}

-- ---- the program and its tables

module _ {A : Type 0} where
  abbrev pub program_of : Image A → Program
  program_of i = record { kernel = i.kernel.now; globals = i.globals.now; memory = i.store.now }

  pub record IsImage (i : Image A) : Type 0 where
    pub valid : IsValid i.kernel.now
    pub procedures : (g : ℕ) → slice_index_or i.procedures g None ≡ procedure_of i.kernel.now g
    pub literals : i.literals ≡ (lay_all i.kernel.now.literals).values

-- the table with a form that stands before those that it tells
abbrev pub Noted : Form → List (Option ℕ) → List (Option ℕ) → Type 0
Noted (Define g e) old new = new ≡ slice_set old g (lambda_in e)
Noted (Do e) old new = new ≡ old

-- the lambdas of so many definitions
pub record IsTable (n : ℕ) (fs : List Form) (table : List (Option ℕ)) : Type 0 where
  pub long : length table ≡ n
  pub tells : (g : ℕ) → g < n → slice_index_or table g None ≡ defined_by g fs

-- ---- steps of parts

-- what is left of the cells of a block
abbrev pub block_from : Option (Block Value) → ℕ → List Step
block_from None i = []
block_from (Some (Bytes bytes)) i = []
block_from (Some (Cells cells)) i = cell_steps (drop i cells)
block_from (Some (Freed n)) i = []

abbrev pub part_from : Program → Part → ℕ → List Step
part_from p (parts.Body ms) i = drop i (map steps.Does ms)
part_from p (parts.Data b) i = block_from (find b p.memory.fixed) i
part_from p (parts.One s) i = drop i (s ∷ [])

abbrev pub part_steps : Program → Part → List Step
part_steps p part = part_from p part 0

-- the first of some steps, and the others behind a place
abbrev pub NextOf : (ℕ → List Step) → ℕ → Option (Step × ℕ) → Type 0
NextOf rest i None = rest i ≡ []
NextOf rest i (Some x) = rest i ≡ x.0 ∷ rest x.1

-- ---- faults

abbrev pub kind_at : Place → Option SurviveKind → Option Fault
kind_at at None = None
kind_at at (Some kind) = Some (record { kind = kind; at = at })

abbrev pub fault_of : Option (SurviveKind × Place) → Option Fault
fault_of None = None
fault_of (Some x) = Some (record { kind = x.0; at = x.1 })

-- ---- what is seen

abbrev pub flagged : Walk → Node → Bool
flagged w (nodes.Global g) = slice_index_or w.definitions g false
flagged w (nodes.Inner l) = slice_index_or w.lambdas l false
flagged w (nodes.Data b) = slice_index_or w.blocks b false

abbrev pub global_flag : Node → List Bool → List Bool
global_flag (nodes.Global g) flags = slice_set flags g true
global_flag (nodes.Inner l) flags = flags
global_flag (nodes.Data b) flags = flags

abbrev pub inner_flag : Node → List Bool → List Bool
inner_flag (nodes.Global g) flags = flags
inner_flag (nodes.Inner l) flags = slice_set flags l true
inner_flag (nodes.Data b) flags = flags

abbrev pub data_flag : Node → List Bool → List Bool
data_flag (nodes.Global g) flags = flags
data_flag (nodes.Inner l) flags = flags
data_flag (nodes.Data b) flags = slice_set flags b true

abbrev pub set_flag : Node → Walk → Walk
set_flag n w = record w { definitions = global_flag n w.definitions; lambdas = inner_flag n w.lambdas; blocks = data_flag n w.blocks }

abbrev pub frame_of : Part → ℕ → Frame
frame_of part i = record { part = part; next = i }

-- a node is seen now, and its part is the top
abbrev pub seen_now : Node → Part → Walk → Walk
seen_now n part w = record w { order = w.order ++ n ∷ []; frames = w.frames ++ frame_of part 0 ∷ [] }

-- the part of a node is begun
pub record Enters (p : Program) (n : Node) (old new : Walk) : Type 0 where
  pub part : Part
  pub steps : part_steps p part ≡ steps_of p n
  pub is : new ≡ seen_now n part (set_flag n old)

abbrev pub VisitsBy : Bool → Program → Node → Walk → Walk → Type 0
VisitsBy true p n old new = new ≡ old
VisitsBy false p n old new = Enters p n old new

abbrev pub Visits : Program → Node → Walk → Walk → Type 0
Visits p n old new = VisitsBy (flagged old n) p n old new

abbrev pub VisitsNamed : Program → Option Node → Walk → Walk → Type 0
VisitsNamed p None old new = new ≡ old
VisitsNamed p (Some n) old new = Visits p n old new

-- ---- the stack

abbrev pub onto : Frame → Walk → Walk
onto f w = record w { frames = w.frames ++ f ∷ [] }

abbrev pub Takes : Walk → Walk → Option Frame → Type 0
Takes old new None = (old.frames ≡ []) × (new ≡ old)
Takes old new (Some f) = old ≡ onto f new

module _ (p : Program) where
  -- a step is done, and this frame goes on
  pub record GoesOn (rest : Frame) (s : Step) (old new : Walk) : Type 0 where
    pub clean : fault p s ≡ None
    pub visits : VisitsNamed p (names p s) (onto rest old) new

  -- a step is a fault
  abbrev pub IsFaulty : Step → Refused → Type 0
  IsFaulty s (faults.Survives kind at) = fault p s ≡ Some (record { kind = kind; at = at })
  IsFaulty s f = ⊥

  abbrev pub Works : Frame → Step → Walk → Walk → Result (Unit {0}) Refusal → Type 0
  Works rest s old new (Ok x) = GoesOn rest s old new
  Works rest s old new (Err (refusals.Fault f)) = IsFaulty s f
  Works rest s old new (Err refusals.NoMemory) = Unit {0}

  abbrev pub frame_steps : Frame → List Step
  frame_steps f = part_from p f.part f.next

  -- a step of a frame, and what is left of it
  pub record Due (f : Frame) (old new : Walk) (r : Result (Unit {0}) Refusal) : Type 0 where
    pub step : Step
    pub next : ℕ
    pub is : frame_steps f ≡ step ∷ frame_steps (frame_of f.part next)
    pub works : Works (frame_of f.part next) step old new r

  -- nothing is left of a frame
  pub record Over (f : Frame) (old new : Walk) : Type 0 where
    pub none : frame_steps f ≡ []
    pub stays : new ≡ old

  abbrev pub TurnsBy : Option (Step × ℕ) → Frame → Walk → Walk → Result (Unit {0}) Refusal → Type 0
  TurnsBy None f old new (Ok x) = Over f old new
  TurnsBy None f old new (Err e) = ⊥
  TurnsBy (Some x) f old new r = Due f old new r

  pub record Turns (f : Frame) (old new : Walk) (r : Result (Unit {0}) Refusal) : Type 0 where
    pub found : Option (Step × ℕ)
    pub is : TurnsBy found f old new r

  -- ---- the walk

  -- what is left to do: first at the top
  abbrev pub todo : List Frame → List Step
  todo [] = []
  todo (f ∷ fs) = todo fs ++ frame_steps f

  -- the walk from `main` comes to this
  pub record IsWalk (w : Walk) : Type 0 where
    pub definitions : length w.definitions ≡ length p.kernel.definitions
    pub lambdas : length w.lambdas ≡ length p.kernel.lambdas
    pub blocks : length w.blocks ≡ next_number p.memory.fixed
    pub flags : (n : Node) → flagged w n ≡ has w.order n
    pub on : (e : End) → Walks p w.order (todo w.frames) e → Survives p e

  -- all is done
  pub record IsOver (w : Walk) : Type 0 where
    pub flags : (n : Node) → flagged w n ≡ has w.order n
    pub ended : Survives p (Ended w.order)

  abbrev pub Ends : Result Walk Refusal → Type 0
  Ends (Ok w) = IsOver w
  Ends (Err (refusals.Fault f)) = RefusesFault p f
  Ends (Err refusals.NoMemory) = Unit {0}

  abbrev pub nothing_seen : Walk
  nothing_seen = record {
    definitions = replicate (length p.kernel.definitions) false;
    lambdas = replicate (length p.kernel.lambdas) false;
    blocks = replicate (next_number p.memory.fixed) false;
    order = [];
    frames = [];
  }

  abbrev pub IsStart : Walk → Type 0
  IsStart w = Visits p (main_node p) nothing_seen w

-- ---- copies

abbrev pub added_block : Bool → ℕ × Block Value → List NumberedBlock
added_block seen e = if seen then record { number = e.0; block = kept_block e.1 } ∷ [] else []

-- the blocks that are seen
abbrev pub all_added : (Node → Bool) → List (ℕ × Block Value) → List NumberedBlock
all_added seen [] = []
all_added seen (e ∷ es) = added_block (seen (nodes.Data e.0)) e ++ all_added seen es
