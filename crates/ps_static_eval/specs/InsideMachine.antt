-- What the cells of the machine stand for. No public clause cites this file.
--
-- Read `holds h c` as: what one cell more on top of h holds: the locals in scope, what is done with a value, and what is done
-- with the values of operands. Read `rest k f c given cells m` as: what a run comes to where the machine does c next, if calls
-- do what f does.
use Rattle.std.specs.Prelude.{◌≡◌, ◌≤◌, ℕ, zero, suc, ℤ, List, [], ◌∷◌, map, drop, reverse, is_some, Option, Some, None, if◌then◌else◌}
use Rattle.ps_base.specs.declared.faults.Place.{Place}
use Rattle.byte_store.specs.declared.pointer.Value.{Value}
use Rattle.byte_store.specs.declared.pointer.Value.TheVariants.{Unit as Nothing}
use Rattle.byte_store.specs.Outcome as ends
use Rattle.byte_store.specs.declared.event.Event.{Event}
use Rattle.byte_store.specs.Blocks.{Memory}
use Rattle.byte_store.specs.Worlds.{Surroundings}
use Rattle.ps_prims.specs.declared.stages.Stage.TheVariants.{Compile}
use Rattle.ps_prims.specs.Sorts.{first_order, and_seen, as_boolean}
use Rattle.ps_runs.specs.Runs.{Env, State, Step, Goes, Stops, Run, ◌>>=◌, ◌>>◌, pure, stop, stopped, or_wrong}
use Rattle.ps_runs.specs.Runs as runs
use Rattle.ps_runs.specs.Locals.{get_locals, put_locals, local, set_local, binding, within}
use Rattle.ps_runs.specs.Effects.{global, set_global}
use Rattle.ps_kernel.specs.declared.expr.CaseKind.{CaseKind}
use Rattle.ps_kernel.specs.declared.expr.Expr.{Expr}
use Rattle.ps_kernel.specs.declared.expr.Labelled.{Labelled}
use Rattle.ps_kernel.specs.declared.kernel.Form.{Form}
use Rattle.ps_kernel.specs.declared.kernel.Kernel.{Kernel}
use Rattle.ps_kernel.specs.Marks.{body_of, labels_of}
use Rattle.ps_kernel.specs.Rules.{is_among}
use Rattle.ps_kernel.specs.Texts.{procedure_of}
use Rattle.ps_meaning.specs.Eval.{Choice, CompileEnter, compile, compile_entering, letrec_lambda, unless, each, in_order, either, label_of, chosen, operation}
use Rattle.ps_meaning.specs.Source.{form, all_forms}
use Rattle.ps_slots.specs.declared.cell.Cell.{Cell}
use Rattle.ps_slots.specs.declared.cell.Cell.TheVariants.{Entered, Local, Waits}
use Rattle.ps_static_eval.specs.declared.machine.Machine.{Machine}
use Rattle.ps_static_eval.specs.declared.machine.Halt.{Halt}
use Rattle.ps_static_eval.specs.declared.machine.Halt.TheVariants as halts
use Rattle.ps_static_eval.specs.declared.machine.Job.{Job}
use Rattle.ps_static_eval.specs.declared.machine.Job.TheVariants.{Enter, Perform}
use Rattle.ps_static_eval.specs.declared.machine.Waiting.{Waiting}
use Rattle.ps_static_eval.specs.declared.machine.Waiting.TheVariants as waiting
use Rattle.ps_static_eval.specs.declared.machine.Control.{Control}
use Rattle.ps_static_eval.specs.declared.machine.Control.TheVariants.{Work, Give, Take, Halted}
use Rattle.ps_static_eval.specs.declared.machine.Ending.{Ending}
use Rattle.ps_static_eval.specs.declared.machine.Ending.TheVariants as ending

abbrev pub Cells : Type 0
Cells = List (Cell Waiting)

-- what it does to enter a procedure, whatever the depth: the place of the call, the lambda, and the operands
abbrev pub Calling : Type 0
Calling = Place → ℕ → List Value → Run Value Value

abbrev pub anywhere : Calling → CompileEnter
anywhere f d = f

-- a procedure is entered as at depth 0
abbrev pub entering : Kernel → Calling → Calling
entering k f at l vs = compile_entering k (anywhere f) 0 at l vs

-- the same where procedures may be entered n + 1 deep
abbrev pub enters_within : Kernel → ℕ → Calling
enters_within k zero = entering k (λ at l vs. stop (runs.Ends ends.Running))
enters_within k (suc n) = entering k (enters_within k n)

abbrev pub enters : Kernel → ℕ → CompileEnter
enters k n = anywhere (enters_within k n)

-- the state but for the locals and the depth, of which nothing is seen
pub record Left : Type 0 where
  pub calls : ℕ
  pub cells : ℕ
  pub store : Memory Value
  pub globals : List (Option Value)
  pub world : Surroundings
  pub events : List Event

-- what a machine leaves to the cells to say
abbrev pub left : {A : Type 0} → Machine A → Left
left m = record { calls = m.calls; cells = m.cells; store = m.store; globals = m.globals; world = m.world; events = m.events }

abbrev pub at : Left → Env Value → State Value
at m env = record {
  calls = m.calls;
  cells = Some m.cells;
  memory = m.store;
  globals = m.globals;
  locals = env;
  world = m.world;
  events = m.events;
  deepest = 0;
}

abbrev pub halt_of : Halt → runs.Halt
halt_of halts.Running = runs.Ends ends.Running
halt_of halts.Cells = runs.Ends ends.StoppedAtCells
halt_of (halts.Undefined op at) = runs.Ends (ends.Undefined op at)
halt_of (halts.Wrong at) = runs.Ends (ends.Wrong at)
halt_of (halts.RunOnly at) = runs.RunOnly at

-- the place of what no run comes to
abbrev pub nowhere : Place
nowhere = record { file = 0; line = 1; column = 1 }

abbrev pub nothing : {A : Type 0} → A → Run Value Value
nothing _ = stop (runs.Ends (ends.Wrong nowhere))

-- the first branch that has the label, or else the last expression
abbrev pub body_for : ℤ → List Labelled → Expr → Expr
body_for i [] e = e
body_for i (b ∷ bs) e = if is_among i (labels_of b) then body_of b else body_for i bs e

-- the locals that were bound last go, and then
abbrev pub dropping : ℕ → Run Value Value → Run Value Value
dropping n p = get_locals >>= (λ later. put_locals (drop n later) >> p)

-- a value is put into a local
abbrev pub puts_local : Place → ℕ → Value → Run Value Value
puts_local at x v = set_local at x v >> pure Nothing

-- a value is assigned to a definition
abbrev pub assigns : ℕ → Value → Run Value Value
assigns g v = set_global g v >> pure Nothing

-- what cells hold
pub record Held : Type 0 where
  pub env : Env Value
  pub give : Value → Run Value Value
  pub take : List Value → Run Value Value

abbrev pub bottom : Held
bottom = record { env = []; give = pure; take = nothing }

module _ (k : Kernel) (f : CompileEnter) where
  -- expressions from left to right, and their values
  abbrev pub values_of : List Expr → Run Value (List Value)
  values_of es = each k Compile first_order (map (compile k f) es) 0

  -- expressions from left to right, and the value of the last
  abbrev pub last_of : Place → List Expr → Run Value Value
  last_of at es = in_order k Compile first_order at (map (compile k f) es) 0

  -- the one or the other expression, by a test
  abbrev pub tested : Place → Expr → Expr → Value → Run Value Value
  tested at b c v = or_wrong at (and_seen first_order (first_order.seen v) as_boolean) >>= (λ t. either k Compile first_order t (compile k f b 0) (compile k f c 0))

  abbrev pub choice : Labelled → Choice Value
  choice b = record { labels = labels_of b; does = compile k f (body_of b) }

  -- a branch of a case, by its key
  abbrev pub selected : Place → CaseKind → List Labelled → Expr → Value → Run Value Value
  selected at kind bs e v = or_wrong at (label_of k Compile first_order kind v) >>= (λ i. chosen i (map choice bs) (compile k f e) 0)

  abbrev pub does : Job → Place → List Value → Run Value Value
  does (Enter l) at vs = f 0 at l vs
  does (Perform p) at vs = operation k Compile first_order at p vs

  -- the operands, and what they are for
  abbrev pub gathered : Job → Place → List Expr → Run Value Value
  gathered job at es = values_of es >>= (λ vs. does job at vs)

  -- a call of what its operator names
  abbrev pub called : Option ℕ → Place → List Expr → Run Value Value
  called None at es = stop (runs.RunOnly at)
  called (Some l) at es = gathered (Enter l) at es

  abbrev pub compile_local : ℕ → Place → Run Value Value
  compile_local x at = unless k (is_some (letrec_lambda k x)) at (λ d. local at x) 0

  abbrev pub compile_global : ℕ → Place → Run Value Value
  compile_global g at = unless k (is_some (procedure_of k g)) at (λ d. global at g) 0

  -- what waits on top
  abbrev pub waits : Held → Waiting → Held
  waits h (waiting.Branch at b c) = record { env = h.env; give = λ w. tested at b.now c.now w >>= h.give; take = nothing }
  waits h (waiting.Choice at kind bs e) = record { env = h.env; give = λ w. selected at kind bs.now e.now w >>= h.give; take = nothing }
  waits h (waiting.Body x b) = record { env = h.env; give = λ w. binding x w (compile k f b.now 0) >>= h.give; take = nothing }
  waits h (waiting.Rest at es) = record { env = h.env; give = λ w. last_of at es.now >>= h.give; take = nothing }
  waits h (waiting.Assigned g) = record { env = h.env; give = λ w. assigns g w >>= h.give; take = nothing }
  waits h (waiting.Put at x) = record { env = h.env; give = λ w. puts_local at x w >>= h.give; take = nothing }
  waits h (waiting.Gather job at) = record { env = h.env; give = nothing; take = λ vs. does job at vs >>= h.give }
  waits h (waiting.Operand v) = record { env = h.env; give = nothing; take = λ vs. h.take (v ∷ vs) }
  waits h (waiting.Operands es) = record { env = h.env; give = λ w. values_of es.now >>= (λ vs. h.take (w ∷ vs)); take = nothing }

  -- one cell more on top
  abbrev pub holds : Held → Cell Waiting → Held
  holds h Entered = record { env = []; give = λ w. put_locals h.env >> h.give w; take = nothing }
  holds h (Local x v) = record { env = (x, v) ∷ h.env; give = λ w. dropping 1 (h.give w); take = nothing }
  holds h (Waits w) = waits h w

  abbrev pub held_on : Held → Cells → Held
  held_on h [] = h
  held_on h (c ∷ cs) = held_on (holds h c) cs

  abbrev pub held : Cells → Held
  held cs = held_on bottom cs

  -- what is left to do: the values of operands were taken off, the last first
  abbrev pub goes_on : Control → List Value → Held → Run Value Value
  goes_on (Work e) given h = compile k f e.now 0 >>= h.give
  goes_on (Give v) given h = h.give v
  goes_on Take given h = h.take (reverse given)
  goes_on (Halted e) given h = stop (halt_of e)

  -- the same, from what is held on
  abbrev pub from : Control → List Value → Held → Left → Step Value Value
  from c given h m = goes_on c given h (at m h.env)

  abbrev pub rest : Control → List Value → Cells → Left → Step Value Value
  rest c given cells m = from c given (held cells) m

-- a part, and then what the cells do with its value, goes on so
abbrev pub Turns : Kernel → CompileEnter → Run Value Value → Cells → Left → Control → List Value → Cells → Left → Type 0
Turns k f p cells m c given cells' m' = (p >>= (held k f cells).give) (at m (held k f cells).env) ≡ rest k f c given cells' m'

-- the operands behind one that has a value, and what they are for
abbrev pub NextOperand : Kernel → CompileEnter → Value → List Expr → Cells → Left → Control → List Value → Cells → Type 0
NextOperand k f v es cells m c given cells' = (values_of k f es >>= (λ vs. (held k f cells).take (v ∷ vs))) (at m (held k f cells).env) ≡ rest k f c given cells' m

-- with this cell on top it goes on so
abbrev pub Resumes : Kernel → CompileEnter → Control → List Value → Cell Waiting → Cells → Left → Control → List Value → Cells → Left → Type 0
Resumes k f c given g cells m c' given' cells' m' = from k f c given (holds k f (held k f cells) g) m ≡ rest k f c' given' cells' m'

-- the same ends, whatever the bound from the calls left on
abbrev pub Same : Kernel → Control → List Value → Cells → Left → Control → List Value → Cells → Left → Type 0
Same k c vs cs s c' vs' cs' s' = (n : ℕ) → s.calls ≤ n → rest k (enters k n) c vs cs s ≡ rest k (enters k n) c' vs' cs' s'

-- what operands are for is done, where a procedure is entered
abbrev pub job_done : Kernel → CompileEnter → Job → Place → List Value → Run Value Value
job_done k f (Enter l) at vs = compile_entering k f 0 at l vs
job_done k f (Perform p) at vs = operation k Compile first_order at p vs

-- a part of a run from one state on ends so, and leaves the other, whatever the locals
abbrev pub Becomes : Run Value Value → Left → Ending → Left → Type 0
Becomes p m (ending.Gave v) m' = (env : Env Value) → p (at m env) ≡ Goes v (at m' env)
Becomes p m (ending.Halted h) m' = (env : Env Value) → p (at m env) ≡ Stops (halt_of h) (at m' [])

abbrev pub control_of : Ending → Control
control_of (ending.Gave v) = Give v
control_of (ending.Halted h) = Halted h

-- a frame begins on top: what runs with locals of its own goes on into it
pub record Begins (k : Kernel) (cells cells' : Cells) : Type 0 where
  pub same : (f : CompileEnter) (env : Env Value) (p : Run Value Value) (m : Left) → (within env p >>= (held k f cells).give) (at m (held k f cells).env) ≡ (p >>= (held k f cells').give) (at m env)
  pub env : (f : CompileEnter) → (held k f cells').env ≡ []
  pub forgets : (f : CompileEnter) (w : Value) (s : State Value) (e : Env Value) → (held k f cells').give w s ≡ (held k f cells').give w (record s { locals = e })

-- the slots of parameters
abbrev pub slots : List ℕ → List Value → Cells
slots [] vs = []
slots (x ∷ xs) [] = []
slots (x ∷ xs) (v ∷ vs) = Local x v ∷ slots xs vs

-- how an expression ends, where no local is in scope
abbrev pub EndsSo : Kernel → Expr → Left → Ending → Left → Type 0
EndsSo k e m (ending.Gave v) m' = (n : ℕ) → m.calls ≤ n → compile k (enters k n) e 0 (at m []) ≡ Goes v (at m' [])
EndsSo k e m (ending.Halted h) m' = (n : ℕ) → m.calls ≤ n → compile k (enters k n) e 0 (at m []) ≡ Stops (halt_of h) (at m' [])

-- how a form ends, where no local is in scope: it is done, or it stops
abbrev pub FormEnds : Kernel → Form → Left → Option Halt → Left → Type 0
FormEnds k f m None m' = (n : ℕ) → m.calls ≤ n → form k (enters k n) f (at m []) ≡ Goes tt (at m' [])
FormEnds k f m (Some h) m' = (n : ℕ) → m.calls ≤ n → form k (enters k n) f (at m []) ≡ Stops (halt_of h) (at m' [])

-- the same of forms in order
abbrev pub FormsEnd : Kernel → List Form → Left → Option Halt → Left → Type 0
FormsEnd k fs m None m' = (n : ℕ) → m.calls ≤ n → all_forms k (enters k n) fs (at m []) ≡ Goes tt (at m' [])
FormsEnd k fs m (Some h) m' = (n : ℕ) → m.calls ≤ n → all_forms k (enters k n) fs (at m []) ≡ Stops (halt_of h) (at m' [])
