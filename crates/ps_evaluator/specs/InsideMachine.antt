-- What a state of the machine stands for.
--
-- Read `rest k enter c fs` as: what is still to be done where the machine does c next and the frames fs wait, of which the last
-- waits for the value of c, if calls do what `enter` does. The values of locals are in the state of the machine, as they are in
-- that of a run.
use Rattle.std.specs.Prelude.{ℕ, ℤ, ◌≡◌, ◌≤◌, Bool, true, false, List, [], ◌∷◌, ◌++◌, drop, map, Option, None, if◌then◌else◌}
use Rattle.ps_base.specs.declared.faults.Place.{Place}
use Rattle.byte_store.specs.declared.pointer.Value.TheVariants.{Unit as Nothing}
use Rattle.byte_store.specs.Outcome as ends
use Rattle.ps_prims.specs.declared.stages.Stage.TheVariants.{Run as AtRun}
use Rattle.ps_prims.specs.Sorts.{and_seen, as_boolean}
use Rattle.ps_runs.specs.Runs.{Env, State, Run, ◌>>=◌, ◌>>◌, pure, stop, stopped, or_wrong}
use Rattle.ps_runs.specs.Runs as runs
use Rattle.ps_runs.specs.Locals.{get_locals, put_locals, local, set_local, binding, within}
use Rattle.ps_runs.specs.Effects.{global, set_global}
use Rattle.ps_kernel.specs.declared.expr.CaseKind.{CaseKind}
use Rattle.ps_kernel.specs.declared.expr.Expr.{Expr}
use Rattle.ps_kernel.specs.declared.expr.Labelled.{Labelled}
use Rattle.ps_kernel.specs.declared.kernel.Kernel.{Kernel}
use Rattle.ps_kernel.specs.Marks.{body_of, labels_of}
use Rattle.ps_kernel.specs.Rules.{is_among}
use Rattle.ps_meaning.specs.declared.values.RunValue.{RunValue}
use Rattle.ps_meaning.specs.declared.values.RunValue.TheVariants.{Plain}
use Rattle.ps_meaning.specs.Values.{pairs_of, run_values}
use Rattle.ps_meaning.specs.Eval.{Choice, RunEnter, closure, group_pairs, run, run_enters, each, in_order, either, label_of, chosen, operation}
use Rattle.ps_meaning.specs.Source.{run_memory}
use Rattle.ps_evaluator.specs.declared.machine.Machine.{Machine}
use Rattle.ps_evaluator.specs.declared.machine.Halt.{Halt}
use Rattle.ps_evaluator.specs.declared.machine.Halt.TheVariants.{Running, Undefined, Wrong}
use Rattle.ps_evaluator.specs.declared.machine.Job.{Job}
use Rattle.ps_evaluator.specs.declared.machine.Job.TheVariants.{Enter, Perform}
use Rattle.ps_evaluator.specs.declared.machine.Frame.{Frame}
use Rattle.ps_evaluator.specs.declared.machine.Frame.TheVariants as frame
use Rattle.ps_evaluator.specs.declared.machine.Deed.{Deed}
use Rattle.ps_evaluator.specs.declared.machine.Deed.TheVariants.{Fetch, Assign, Look, Put, Close, Bind, BindGroup, Unbind, PutBack}
use Rattle.ps_evaluator.specs.declared.run.Ending.{Ending}
use Rattle.ps_evaluator.specs.declared.run.Ending.TheVariants.{Gave, Unfinished}
use Rattle.ps_evaluator.specs.declared.run.Ending.TheVariants as ending
use Rattle.ps_evaluator.specs.declared.machine.Control.{Control}
use Rattle.ps_evaluator.specs.declared.machine.Control.TheVariants.{Work, Act, Do, Inside, Give, Halted}

-- the state of the run, without a limit on cells
abbrev pub state_of : Machine → State RunValue
state_of m = record {
  calls = m.calls;
  cells = None;
  memory = run_memory m.store;
  globals = m.globals;
  locals = pairs_of m.locals;
  world = m.world;
  events = m.events;
  deepest = m.deepest;
}

abbrev pub halt_of : Halt → runs.Halt
halt_of Running = runs.Ends ends.Running
halt_of (Undefined op at) = runs.Ends (ends.Undefined op at)
halt_of (Wrong at) = runs.Ends (ends.Wrong at)

-- these locals are bound besides those in scope
abbrev pub adding : Env RunValue → Run RunValue RunValue → Run RunValue RunValue
adding pairs p = get_locals >>= (λ env. put_locals (pairs ++ env) >> p)

-- so many locals go, and a value is given
abbrev pub dropping : ℕ → RunValue → Run RunValue RunValue
dropping n v = get_locals >>= (λ later. put_locals (drop n later) >> pure v)

-- these are the locals, and a value is given
abbrev pub back : Env RunValue → RunValue → Run RunValue RunValue
back env v = put_locals env >> pure v

-- the first branch that has the label, or else the last expression
abbrev pub body_for : ℤ → List Labelled → Expr → Expr
body_for i [] e = e
body_for i (b ∷ bs) e = if is_among i (labels_of b) then body_of b else body_for i bs e

module _ (k : Kernel) (enter : RunEnter) where
  -- expressions from left to right, and their values
  abbrev pub values_of : List Expr → ℕ → Run RunValue (List RunValue)
  values_of es d = each k AtRun run_values (map (run k enter) es) d

  -- expressions from left to right, and the value of the last
  abbrev pub last_of : Place → List Expr → ℕ → Run RunValue RunValue
  last_of at es d = in_order k AtRun run_values at (map (run k enter) es) d

  -- the one or the other expression, by a test
  abbrev pub tested : Place → Expr → Expr → ℕ → RunValue → Run RunValue RunValue
  tested at b c d v = or_wrong at (and_seen run_values (run_values.seen v) as_boolean) >>= (λ t. either k AtRun run_values t (run k enter b d) (run k enter c d))

  -- what a branch of a case does
  abbrev pub choice : Labelled → Choice RunValue
  choice b = record { labels = labels_of b; does = run k enter (body_of b) }

  -- a branch of a case, by its key
  abbrev pub selected : Place → CaseKind → List Labelled → Expr → ℕ → RunValue → Run RunValue RunValue
  selected at kind bs e d v = or_wrong at (label_of k AtRun run_values kind v) >>= (λ i. chosen i (map choice bs) (run k enter e) d)

  abbrev pub does : Job → Place → List RunValue → Run RunValue RunValue
  does (Enter d v) at vs = enter d at v vs
  does (Perform p) at vs = operation k AtRun run_values at p vs

  abbrev pub acts : Deed → Run RunValue RunValue
  acts (Fetch at g) = global at g
  acts (Assign g v) = set_global g v >> pure (Plain Nothing)
  acts (Look at x) = local at x
  acts (Put at x v) = set_local at x v >> pure (Plain Nothing)
  acts (Close l) = get_locals >>= (λ env. pure (closure k l env))
  acts (Bind x v b d) = adding ((x, v) ∷ []) (run k enter b.now d)
  acts (BindGroup g b d) = get_locals >>= (λ env. adding (group_pairs k g.now env) (run k enter b.now d))
  acts (Unbind n v) = dropping n v
  acts (PutBack env v) = back (pairs_of env) v

  -- what a frame does with the value that it waits for
  abbrev pub resume : Frame → RunValue → Run RunValue RunValue
  resume (frame.Branch at b c d) v = tested at b.now c.now d v
  resume (frame.Choice at kind bs e d) v = selected at kind bs.now e.now d v
  resume (frame.Body x b d) v = binding x v (run k enter b.now d)
  resume (frame.Unbound n) v = dropping n v
  resume (frame.Back env) v = back (pairs_of env) v
  resume (frame.Rest at es d) v = last_of at es.now d
  resume (frame.Assigned g) v = acts (Assign g v)
  resume (frame.Put at x) v = acts (Put at x v)
  resume (frame.Operator at deep es d) v = values_of es.now d >>= (λ vs. enter deep at v vs)
  resume (frame.Operands job at done es d) v = values_of es.now d >>= (λ vs. does job at (done ++ v ∷ vs))

  -- the frames, of which the last waits for the value
  abbrev pub plug : List Frame → RunValue → Run RunValue RunValue
  plug [] v = pure v
  plug (f ∷ fs) v = plug fs v >>= resume f

  abbrev pub now : Control → Run RunValue RunValue
  now (Work e d) = run k enter e.now d
  now (Act deed) = acts deed
  now (Do job at vs) = does job at vs
  now (Inside env b d) = within (pairs_of env) (run k enter b.now d)
  now (Give v) = pure v
  now (Halted h) = stop (halt_of h)

  abbrev pub rest : Control → List Frame → Run RunValue RunValue
  rest c fs = now c >>= plug fs

-- the second goes on where the first was, whatever calls do
abbrev pub Continues : Kernel → Control → List Frame → Control → List Frame → Type 0
Continues k c fs c' fs' = (f : RunEnter) → rest k f c fs ≡ rest k f c' fs'

-- the same for one frame that is given a value
abbrev pub Resumes : Kernel → Frame → RunValue → List Frame → Control → List Frame → Type 0
Resumes k g v fs c fs' = (f : RunEnter) → (resume k f g v >>= plug k f fs) ≡ rest k f c fs'

-- the same for operands, with whose values, behind those that are there, a job is then done
abbrev pub Gathers : Kernel → Job → Place → List RunValue → List Expr → ℕ → List Frame → Control → List Frame → Type 0
Gathers k job at done es d fs c fs' = (f : RunEnter) →
    (values_of k f es d >>= (λ vs. does k f job at (done ++ vs) >>= plug k f fs)) ≡ rest k f c fs'

-- the same for an operator, whose procedure is then entered with operands
abbrev pub Calls : Kernel → Place → ℕ → Expr → List Expr → ℕ → List Frame → Control → List Frame → Type 0
Calls k at deep e es d fs c fs' = (f : RunEnter) →
    ((run k f e d >>= (λ v. values_of k f es d >>= (λ vs. f deep at v vs))) >>= plug k f fs) ≡ rest k f c fs'

-- the same for a sequence
abbrev pub Follows : Kernel → Place → List Expr → ℕ → List Frame → Control → List Frame → Type 0
Follows k at es d fs c fs' = (f : RunEnter) → (last_of k f at es d >>= plug k f fs) ≡ rest k f c fs'

-- what is given, or Wrong where there is nothing
abbrev pub Gives : Kernel → Place → Option RunValue → Control → Type 0
Gives k at o c = (f : RunEnter) → now k f c ≡ or_wrong at o

-- one of two expressions, by a test
abbrev pub Chooses : Kernel → Place → Expr → Expr → ℕ → RunValue → Control → Type 0
Chooses k at b c d v x = (f : RunEnter) → tested k f at b c d v ≡ now k f x

-- one of the branches of a case, by its key
abbrev pub Selects : Kernel → Place → CaseKind → List Labelled → Expr → ℕ → RunValue → Control → Type 0
Selects k at kind bs e d v x = (f : RunEnter) → selected k f at kind bs e d v ≡ now k f x

-- a part of a run from one state on is the control in the other
abbrev pub Becomes : Kernel → (RunEnter → Run RunValue RunValue) → Machine → Control → Machine → Type 0
Becomes k p s c s' = (f : RunEnter) → p f (state_of s) ≡ now k f c (state_of s')

-- the same of what is still to be done
abbrev pub Moves : Kernel → Control → List Frame → Machine → Control → List Frame → Machine → Type 0
Moves k c fs s c' fs' s' = (f : RunEnter) → rest k f c fs (state_of s) ≡ rest k f c' fs' (state_of s')

-- the same ends, for each bound that the calls left do not pass
abbrev pub Same : Kernel → Control → List Frame → Machine → Control → List Frame → Machine → Type 0
Same k c fs s c' fs' s' = (n : ℕ) → s.calls ≤ n → rest k (run_enters k n) c fs (state_of s) ≡ rest k (run_enters k n) c' fs' (state_of s')

abbrev pub is_over : Control → List Frame → Bool
is_over (Halted h) fs = true
is_over (Give v) [] = true
is_over _ fs = false

-- what a control that has come to its end stands for
abbrev pub Ends : Kernel → RunEnter → Control → List Frame → Ending → Type 0
Ends k f c fs (Gave v) = rest k f c fs ≡ pure v
Ends k f c fs (ending.Halted h) = rest k f c fs ≡ stop (halt_of h)
Ends k f c fs Unfinished = Unit {0}

-- the end of a run, and the state there
abbrev pub EndsAs : Kernel → ℕ → Control → Machine → Ending → Machine → Type 0
EndsAs k n c s (Gave v) s' = now k (run_enters k n) c (state_of s) ≡ runs.Goes v (state_of s')
EndsAs k n c s (ending.Halted h) s' = now k (run_enters k n) c (state_of s) ≡ runs.Stops (halt_of h) (stopped (state_of s'))
EndsAs k n c s Unfinished s' = Unit {0}
