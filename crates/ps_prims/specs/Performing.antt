-- What a call of `perform` has to do with the row.
use Rattle.std.specs.Prelude.{◌≡◌, List, ◌++◌}
use Rattle.byte_store.specs.declared.event.Event.{Event}
use Rattle.byte_store.specs.declared.pointer.Value.{Value}
use Rattle.byte_store.specs.Worlds.{Surroundings}
use Rattle.byte_store.specs.Blocks.{Memory}
use Rattle.ps_prims.specs.declared.outcome.PrimOut.{PrimOut}
use Rattle.ps_prims.specs.declared.outcome.PrimOut.TheVariants as out
use Rattle.ps_prims.specs.declared.stages.Stage.{Stage}
use Rattle.ps_prims.specs.declared.stages.Stages.{Stages}
use Rattle.ps_prims.specs.declared.stages.Stage.TheVariants.{Compile, Run}
use Rattle.ps_prims.specs.declared.stages.Stages.TheVariants.{Both, CompileOnly, RunOnly}
use Rattle.ps_prims.specs.Rows.{Performed, Answers, Undefined, Wrong}

-- a row belongs to a stage
abbrev pub Belongs : Stages → Stage → Type 0
Belongs Both stage = Unit {0}
Belongs CompileOnly Compile = Unit {0}
Belongs CompileOnly Run = ⊥
Belongs RunOnly Compile = ⊥
Belongs RunOnly Run = Unit {0}

-- memory, world and the list of events, which a call may change
pub record State : Type 0 where
  pub memory : Memory Value
  pub world : Surroundings
  pub events : List Event

abbrev pub state : Memory Value → Surroundings → List Event → State
state m w es = record { memory = m; world = w; events = es }

-- The call answers what the row does, and leaves its memory, its world and its events behind those that were there; or it
-- has the row's cause, or is wrong as the row is. After all but an answer, want of memory too, nothing is changed.
abbrev pub Comes : PrimOut → State → State → Performed Value → Type 0
Comes (out.Value v) old new p =
    (es : List Event)
    × (p ≡ Answers (record { answer = v; memory = new.memory; world = new.world; events = es }))
    × (new.events ≡ old.events ++ es)
Comes (out.Undefined op) old new p = (p ≡ Undefined op) × (new ≡ old)
Comes out.Wrong old new p = (p ≡ Wrong) × (new ≡ old)
Comes out.NoMemory old new p = new ≡ old

-- The same, where memory is wanting only if this holds.
abbrev pub Performs : Type 0 → PrimOut → State → State → Performed Value → Type 0
Performs takes (out.Value v) old new p = Comes (out.Value v) old new p
Performs takes (out.Undefined op) old new p = Comes (out.Undefined op) old new p
Performs takes out.Wrong old new p = Comes out.Wrong old new p
Performs takes out.NoMemory old new p = takes × Comes out.NoMemory old new p
