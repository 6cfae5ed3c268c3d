-- What a part of a run does with more calls left.
-- For: `larger_bound_keeps`
use Rattle.std.proofs.Common.{◌≡◌, ℕ, zero, suc, ◌+◌, List, [], ◌∷◌, Option, Some, None, refl, sym, ap, subst, arith}
use Rattle.std.specs.Prelude.{Bool, true, false, if◌then◌else◌}
use Rattle.byte_store.specs.declared.event.Event.{Event}
use Rattle.byte_store.specs.declared.event.Event.TheVariants.{Input}
use Rattle.byte_store.specs.Outcome.{End, Returned, Running, Undefined, Stuck, Wrong, StoppedAtCells, Begins}
use Rattle.byte_store.specs.Worlds.{next_byte}
use Rattle.byte_store.proofs.FrontsCompose.{begins_self, begins_trans}
use Rattle.ps_plain.proofs.Related.{Keeps}
use Rattle.ps_plain.specs.Run.{State, Step, Goes, Stops, Run, and_then, ◌>>=◌, pure, stop, known, take_one, take_call, at_depth, note, read_byte}

abbrev pub events_of : {A : Type 0} → Step A → List Event
events_of (Goes a s) = s.events
events_of (Stops e s) = s.events

abbrev pub more : ℕ → State → State
more d s = record s { calls = s.calls + d }

-- how a part that stopped goes with d calls more: only one that was still Running goes on
abbrev pub Extends : {A : Type 0} → ℕ → Step A → Step A → Type 0
Extends d (Goes a s) r = r ≡ Goes a (more d s)
Extends d (Stops Running s) r = Begins s.events (events_of r)
Extends d (Stops (Returned i) s) r = r ≡ Stops (Returned i) (more d s)
Extends d (Stops (Undefined op at) s) r = r ≡ Stops (Undefined op at) (more d s)
Extends d (Stops (Stuck op) s) r = r ≡ Stops (Stuck op) (more d s)
Extends d (Stops (Wrong at) s) r = r ≡ Stops (Wrong at) (more d s)
Extends d (Stops StoppedAtCells s) r = r ≡ Stops StoppedAtCells (more d s)

-- q does with d calls more what p does, and keeps the events before it
pub record Longer {A : Type 0} (d : ℕ) (p q : Run A) : Type 0 where
  pub extends : (s : State) → Extends d (p s) (q (more d s))
  pub grows : (s : State) → Begins s.events (events_of (q s))

pure_longer : {A : Type 0} (d : ℕ) (a : A) → Longer d (pure a) (pure a)
pure_longer d a = record { extends = λ s. refl; grows = λ s. begins_self s.events }

pub stop_longer : {A : Type 0} (d : ℕ) (e : End) → Longer {A = A} d (stop e) (stop e)
stop_longer {A} d e = record { extends = λ s. one e s; grows = λ s. begins_self s.events }
  where
    one : (e : End) (s : State) → Extends {A = A} d (Stops e s) (Stops e (more d s))
    one Running s = begins_self s.events
    one (Returned i) s = refl
    one (Undefined op at) s = refl
    one (Stuck op) s = refl
    one (Wrong at) s = refl
    one StoppedAtCells s = refl

-- whatever only adds events is longer than what is Running at once
pub running_longer : {A : Type 0} (d : ℕ) {p q : Run A} → Longer d p q → Longer d (stop Running) q
running_longer d l = record { extends = λ s. l.grows (more d s); grows = l.grows }

pub known_longer : {A : Type 0} (d : ℕ) (e : End) (o : Option A) → Longer d (known e o) (known e o)
known_longer d e None = stop_longer d e
known_longer d e (Some a) = pure_longer d a

pub at_depth_longer : (d n : ℕ) → Longer d (at_depth n) (at_depth n)
at_depth_longer d n = record { extends = λ s. refl; grows = λ s. begins_self s.events }

note_longer : (d : ℕ) (e : Event) → Longer d (note e) (note e)
note_longer d e = record { extends = λ s. refl; grows = λ s. record { rest = e ∷ []; is = refl } }

read_longer : (d : ℕ) → Longer d read_byte read_byte
read_longer d = record { extends = λ s. refl; grows = λ s. record { rest = Input (next_byte s.world.input) ∷ []; is = refl } }

if_longer : {A : Type 0} (d : ℕ) (b : Bool) {p q p' q' : Run A} → Longer d p p' → Longer d q q' → Longer d (if b then p else q) (if b then p' else q')
if_longer d true h i = h
if_longer d false h i = i

take_one_grows : (n : ℕ) (s : State) → Begins s.events (events_of (take_one n s))
take_one_grows zero s = begins_self s.events
take_one_grows (suc n) s = begins_self s.events

take_one_extends : (d n : ℕ) (s : State) → Extends d (take_one n s) (take_one (n + d) (more d s))
take_one_extends d zero s = take_one_grows (zero + d) (more d s)
take_one_extends d (suc n) s = let e : suc n + d ≡ suc (n + d) = omega arith in ap (λ z. take_one z (more d s)) e

pub take_call_longer : (d : ℕ) → Longer d take_call take_call
take_call_longer d = record { extends = λ s. take_one_extends d s.calls s; grows = λ s. take_one_grows s.calls s }

module _ {A B : Type 0} (d : ℕ) (f g : A → Run B) (h : (a : A) → Longer d (f a) (g a)) where
  then_grows : (r : Step A) → Begins (events_of r) (events_of (and_then r g))
  then_grows (Goes a s) = (h a).grows s
  then_grows (Stops e s) = begins_self s.events

  then_extends : (r r' : Step A) → Extends d r r' → Extends d (and_then r f) (and_then r' g)
  then_extends (Goes a s) r' e = subst (λ z. Extends d (f a s) (and_then z g)) (sym e) ((h a).extends s)
  then_extends (Stops Running s) r' e = begins_trans s.events (events_of r') (events_of (and_then r' g)) e (then_grows r')
  then_extends (Stops (Returned i) s) r' e = ap (λ z. and_then z g) e
  then_extends (Stops (Undefined op at) s) r' e = ap (λ z. and_then z g) e
  then_extends (Stops (Stuck op) s) r' e = ap (λ z. and_then z g) e
  then_extends (Stops (Wrong at) s) r' e = ap (λ z. and_then z g) e
  then_extends (Stops StoppedAtCells s) r' e = ap (λ z. and_then z g) e

pub then_longer : {A B : Type 0} (d : ℕ) {p q : Run A} {f g : A → Run B} → Longer d p q → ((a : A) → Longer d (f a) (g a)) → Longer d (p >>= f) (q >>= g)
then_longer d {p} {q} {f} {g} l h = record {
  extends = λ s. then_extends d f g h (p s) (q (more d s)) (l.extends s);
  grows = λ s. begins_trans s.events (events_of (q s)) (events_of (and_then (q s) g)) (l.grows s) (then_grows d f g h (q s));
}

pub longer_keeps : (d : ℕ) → Keeps (λ A p q. Longer d p q)
longer_keeps d = record {
  pures = λ a. pure_longer d a;
  knows = λ e o. known_longer d e o;
  notes = λ e. note_longer d e;
  reads = read_longer d;
  ifs = λ b h i. if_longer d b h i;
  thens = λ l h. then_longer d l h;
}
