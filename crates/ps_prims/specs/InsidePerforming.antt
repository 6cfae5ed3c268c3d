-- What calls for one group of primitives have to do with the rows. No public clause cites this file.
use Rattle.std.specs.Prelude.{◌≡◌, List, []}
use Rattle.byte_store.specs.declared.event.Event.{Event}
use Rattle.byte_store.specs.declared.pointer.Value.{Value}
use Rattle.byte_store.specs.Worlds.{Surroundings}
use Rattle.byte_store.specs.Blocks.{Memory}
use Rattle.ps_prims.specs.declared.outcome.PrimOut.{PrimOut}
use Rattle.ps_prims.specs.declared.outcome.PrimOut.TheVariants as out
use Rattle.ps_prims.specs.declared.stages.Stage.{Stage}
use Rattle.ps_prims.specs.Needs.{Events, Takes, Wanting}
use Rattle.ps_prims.specs.Rows.{Performed, Answers, Undefined, Wrong, Scene}
use Rattle.ps_prims.specs.Performing.{Comes}

-- What neither changes nor shows anything: the answer or the cause is that at each stage and in each scene.
abbrev pub Quiet : PrimOut → (Stage → Scene Value → Performed Value) → Type 0
Quiet (out.Value v) act =
    (stage : Stage) (s : Scene Value) → act stage s ≡ Answers (record { answer = v; memory = s.memory; world = s.world; events = [] })
Quiet (out.Undefined op) act = (stage : Stage) (s : Scene Value) → act stage s ≡ Undefined op
Quiet out.Wrong act = (stage : Stage) (s : Scene Value) → act stage s ≡ Wrong
Quiet out.NoMemory act = ⊥

-- the same of what changes no memory and no world, and takes memory for its events alone
abbrev pub Looks : PrimOut → Stage → Memory Value → List Event → List Event → (Stage → Scene Value → Performed Value) → Type 0
Looks o stage m old new act = Wanting o (Takes Events stage) × ((w : Surroundings) →
    Comes
    o
    (record { memory = m; world = w; events = old })
    (record { memory = m; world = w; events = new })
    (act stage (record { memory = m; world = w })))

-- the same of what is not seen from outside, and so takes no memory
abbrev pub LooksQuietly : PrimOut → Memory Value → (Stage → Scene Value → Performed Value) → Type 0
LooksQuietly o m act = (stage : Stage) (events : List Event) → Looks o stage m events events act

-- the same of what changes no world, and takes memory for its events alone
abbrev pub Changes :
    PrimOut → Stage → Memory Value → Memory Value → List Event → List Event → (Stage → Scene Value → Performed Value) → Type 0
Changes o stage m m' old new act = Wanting o (Takes Events stage) × ((w : Surroundings) →
    Comes
    o
    (record { memory = m; world = w; events = old })
    (record { memory = m'; world = w; events = new })
    (act stage (record { memory = m; world = w })))
