-- A primitive does what its row says, and takes memory for that alone which its row needs.
-- For: perform, perform_group, perform_read_byte, perform_write_byte
use Rattle.std.proofs.Common.{◌≡◌, ℤ, List, [], ◌∷◌, Ok, refl, sym, ap}
use Rattle.std.specs.Prelude.{true, false}
use Rattle.std.proofs.lemmas.List.{append-nil}
use Rattle.ps_base.specs.declared.language.PrimName.TheVariants as prims
use Rattle.byte_store.specs.declared.event.Event.{Event}
use Rattle.byte_store.specs.declared.event.Event.TheVariants as events
use Rattle.byte_store.specs.declared.pointer.Value.{Value}
use Rattle.byte_store.specs.declared.pointer.Value.TheVariants as value
use Rattle.byte_store.specs.Blocks.{Memory}
use Rattle.byte_store.specs.Operations.{and_then}
use Rattle.byte_store.specs.Worlds.{Surroundings}
use Rattle.ps_prims.specs.declared.outcome.PrimOut.{PrimOut}
use Rattle.ps_prims.specs.declared.outcome.PrimOut.TheVariants as out
use Rattle.ps_prims.specs.declared.stages.Stage.{Stage}
use Rattle.ps_prims.specs.Sorts.{first_order, fits}
use Rattle.ps_prims.specs.Needs.{Events, Takes, Wanting}
use Rattle.ps_prims.specs.Rows.{Performed, Scene, Row, row, reads, writes, byte_of, perform_row}
use Rattle.ps_prims.specs.declared.stages.Stage.TheVariants.{Compile, Run}
use Rattle.ps_prims.specs.declared.stages.Stages.TheVariants.{RunOnly}
use Rattle.ps_prims.specs.Performing.{Belongs, Comes, Performs, State, state}
use Rattle.ps_prims.specs.InsidePerforming.{Quiet}
use Rattle.ps_prims.specs.Inside.{Acts, Found}
use Rattle.ps_prims.proofs.MakesAreTheRows.{comes_of}

-- operands that fit a row of none are none
no_values : (vs : List Value) → fits first_order [] vs ≡ true → vs ≡ []
no_values [] is = refl
no_values (v ∷ vs) is = absurd (let clash : false ≡ true = is in cc)

pub reads_comes : (vs : List Value) (stage : Stage) (o : PrimOut) (m : Memory Value) (w w' : Surroundings) (old new : List Event) → fits first_order [] vs ≡ true →
    ((m : Memory Value) → Acts o (λ i. value.Integer i) stage (reads stage (record { memory = m; world = w })) (state m w old) (state m w' new)) →
    Comes o (state m w old) (state m w' new) (perform_row first_order (row first_order [] prims.ReadByte) vs stage (record { memory = m; world = w }))
reads_comes vs stage o m w w' old new is h = comes_of (row first_order [] prims.ReadByte) vs [] stage (state m w old) (state m w' new) reads o (no_values vs is) refl (h m)

written : (o : PrimOut) (i : ℤ) (stage : Stage) (m : Memory Value) (w : Surroundings) (old new : List Event) →
    Found o (byte_of i) (λ b. value.Unit) (λ b. events.Output b ∷ []) stage old new → Acts o (λ (u : Unit {0}). value.Unit) stage (writes i stage (record { memory = m; world = w })) (state m w old) (state m w new)
written (out.Value v) i stage m w old new h = (tt, events.Output h.0 ∷ [], ap (λ r. and_then r (λ b. Ok (record { answer = tt; memory = m; world = w; events = events.Output b ∷ [] }))) h.1, h.2, h.3)
written (out.Undefined op) i stage m w old new h = (ap (λ r. and_then r (λ b. Ok (record { answer = tt; memory = m; world = w; events = events.Output b ∷ [] }))) h.0, ap (λ es. state m w es) h.1)
written out.Wrong i stage m w old new h = absurd h
written out.NoMemory i stage m w old new h = ap (λ es. state m w es) h.1

pub writes_comes : (vs : List Value) (i : ℤ) (stage : Stage) (o : PrimOut) (m : Memory Value) (w : Surroundings) (old new : List Event) → vs ≡ value.Integer i ∷ [] →
    Found o (byte_of i) (λ b. value.Unit) (λ b. events.Output b ∷ []) stage old new → Comes o (state m w old) (state m w new) (perform_row first_order (row first_order [] prims.WriteByte) vs stage (record { memory = m; world = w }))
writes_comes vs i stage o m w old new is h = comes_of (row first_order [] prims.WriteByte) vs (value.Integer i ∷ []) stage (state m w old) (state m w new) (writes i) o is refl (written o i stage m w old new h)

-- what is quiet comes without a change
pub quiet_comes : (r : Row Value) (vs : List Value) (o : PrimOut) (stage : Stage) (m : Memory Value) (w : Surroundings) (es : List Event) → Quiet o (perform_row first_order r vs) → Comes o (state m w es) (state m w es) (perform_row first_order r vs stage (record { memory = m; world = w }))
quiet_comes r vs (out.Value v) stage m w es q = ([], q stage (record { memory = m; world = w }), sym (append-nil es))
quiet_comes r vs (out.Undefined op) stage m w es q = (q stage (record { memory = m; world = w }), refl)
quiet_comes r vs out.Wrong stage m w es q = (q stage (record { memory = m; world = w }), refl)
quiet_comes r vs out.NoMemory stage m w es q = absurd q

-- ---- what takes memory

-- what is quiet takes none
pub quiet_wants : (act : Stage → Scene Value → Performed Value) (o : PrimOut) → Quiet o act → Wanting o ⊥
quiet_wants act (out.Value v) q = tt
quiet_wants act (out.Undefined op) q = tt
quiet_wants act out.Wrong q = tt
quiet_wants act out.NoMemory q = absurd q

-- what may take some may want it
pub wants : (o : PrimOut) (T : Type 0) → T → Wanting o T
wants (out.Value v) T t = tt
wants (out.Undefined op) T t = tt
wants out.Wrong T t = tt
wants out.NoMemory T t = t

pub takes_at_run : (stage : Stage) → Belongs RunOnly stage → Takes Events stage
takes_at_run Compile h = absurd h
takes_at_run Run h = tt

pub performs : (takes : Type 0) (o : PrimOut) (old new : State) (p : Performed Value) → Comes o old new p → Wanting o takes → Performs takes o old new p
performs takes (out.Value v) old new p h w = h
performs takes (out.Undefined op) old new p h w = h
performs takes out.Wrong old new p h w = h
performs takes out.NoMemory old new p h w = (w, h)
