-- What a run by code has to do with the machine: the code keeps, for each frame, the place of the next statement.
use Rattle.std.specs.Prelude.{◌≡◌, ℕ, ◌<◌, List, [], ◌∷◌, ◌++◌, drop, length, slice_get, Some, ◌⊎◌}
use Rattle.std.specs.List.{AllByRecursion}
use Rattle.byte_store.specs.declared.event.Event.{Event}
use Rattle.byte_store.specs.Outcome.{Returned, Stuck}
use Rattle.byte_store.specs.Machine.{Move, Goes, Ends}
use Rattle.byte_store.specs.Worlds.{Surroundings}
use Rattle.c_ast.specs.declared.unit.CUnit.{CUnit}
use Rattle.c_ast.specs.declared.unit.CFunction.{CFunction}
use Rattle.c_ast.specs.WellFormed.{variables_of, IsWellFormed}
use Rattle.c_meaning.specs.Machine.{Locals, Caller, State, body_of, unset, locals_of, machine}
use Rattle.c_meaning.specs.declared.stack.Waiting.{Waiting}
use Rattle.c_meaning.specs.Stack.{Stack}
use Rattle.c_meaning.specs.declared.machine.StepOut.{StepOut}
use Rattle.c_meaning.specs.declared.machine.StepOut.TheVariants as outs

abbrev pub starts_at : CUnit → Stack
starts_at u = record { function = 0; locals = unset (locals_of (slice_get u.functions 0)); next = 0; callers = [] }

-- the machine's frame that a frame of the code stands for
abbrev pub caller_of : CUnit → Waiting → Caller
caller_of u c = record { function = c.function; locals = c.locals; left = drop c.next (body_of u c.function); target = c.target }

-- the machine's state that a stack of the code stands for; the code keeps the last frame that waits at the end of its list
abbrev pub callers_of : CUnit → List Waiting → List Caller
callers_of u [] = []
callers_of u (c ∷ cs) = callers_of u cs ++ caller_of u c ∷ []

abbrev pub machine_state : CUnit → Stack → Surroundings → List Event → State
machine_state u s w e = record {
  function = s.function;
  locals = s.locals;
  left = drop s.next (body_of u s.function);
  callers = callers_of u s.callers;
  world = w;
  events = e;
}

-- the frame has the variables of a function of the unit, and goes on at one of its statements
pub record StandsAt (u : CUnit) (function : ℕ) (locals : Locals) (next : ℕ) : Type 0 where
  pub it : CFunction
  pub is : slice_get u.functions function ≡ Some it
  pub variables : length locals ≡ variables_of it
  pub here : next < length it.statements

-- a frame that waits has the variable to which the value goes
pub record Waits (u : CUnit) (c : Waiting) : Type 0 where
  pub stands : StandsAt u c.function c.locals c.next
  pub target : c.target < length c.locals

-- the unit is well formed, and each frame stands at one of its statements
pub record Stands (u : CUnit) (s : Stack) : Type 0 where
  pub well_formed : IsWellFormed u
  pub runs : StandsAt u s.function s.locals s.next
  pub waits : AllByRecursion (Waits u) s.callers

-- the move adds one event, or one frame
abbrev pub Takes : Move State → State → Type 0
Takes (Goes t) s = ((e : Event) × (t.events ≡ s.events ++ e ∷ [])) ⊎ ((c : Caller) × (t.callers ≡ c ∷ s.callers))
Takes (Ends end) s = ⊥

-- the code's state, world and events are as they were
abbrev pub Unmoved : Stack → Stack → Surroundings → Surroundings → List Event → List Event → Type 0
Unmoved s s' w w' e e' = (s' ≡ s) × (w' ≡ w) × (e' ≡ e)

-- What one step by code has to do with a move of the machine: it goes to the new state, or to an end that leaves all as it
-- was. Want of memory comes only where the move would add an event or a frame, and leaves all as it was, too.
abbrev pub IsMove : StepOut → Move State → CUnit → Stack → Stack → Surroundings → Surroundings → List Event → List Event → Type 0
IsMove outs.Going move u s s' w w' e e' = move ≡ Goes (machine_state u s' w' e')
IsMove (outs.Returned i) move u s s' w w' e e' = (move ≡ Ends (Returned i)) × Unmoved s s' w w' e e'
IsMove (outs.Stuck op) move u s s' w w' e e' = (move ≡ Ends (Stuck op)) × Unmoved s s' w w' e e'
IsMove outs.NoMemory move u s s' w w' e e' = Takes move (machine_state u s w e) × Unmoved s s' w w' e e'

-- the code's step is the machine's
abbrev pub Steps : StepOut → CUnit → Stack → Stack → Surroundings → Surroundings → List Event → List Event → Type 0
Steps out u s s' w w' e e' = IsMove out ((machine u).step (machine_state u s w e)) u s s' w w' e e'
