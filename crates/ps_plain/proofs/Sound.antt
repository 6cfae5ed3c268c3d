-- Parts of a run that end neither Wrong nor out of cells, and what their values are.
-- For: `program_is_sound`
use Rattle.std.proofs.Common.{ℕ, zero, suc, Option, Some, None}
use Rattle.std.specs.Prelude.{Bool, true, false, if◌then◌else◌}
use Rattle.byte_store.specs.declared.event.Event.{Event}
use Rattle.byte_store.specs.Outcome.{End, IsSound}
use Rattle.ps_plain.specs.Run.{State, Step, Goes, Stops, Run, and_then, ◌>>=◌, pure, known, take_one, take_call, at_depth, note, read_byte}

abbrev pub SoundStep : {A : Type 0} → (A → Type 0) → Step A → Type 0
SoundStep P (Goes a s) = P a
SoundStep P (Stops e s) = IsSound e

-- the part ends soundly, or goes on with a value of which P holds
pub record Sound {A : Type 0} (P : A → Type 0) (p : Run A) : Type 0 where
  pub ends : (s : State) → SoundStep P (p s)

-- whatever the value is
abbrev pub Any : {A : Type 0} → A → Type 0
Any a = Unit {0}

pub pure_sound : {A : Type 0} {P : A → Type 0} (a : A) → P a → Sound P (pure a)
pure_sound a h = record { ends = λ s. h }

-- what may not be known is known, or its end is sound
pub known_sound : {A : Type 0} (e : End) (o : Option A) → IsSound e → Sound Any (known e o)
known_sound e None h = record { ends = λ s. h }
known_sound e (Some a) h = record { ends = λ s. tt }

pub at_depth_sound : (n : ℕ) → Sound Any (at_depth n)
at_depth_sound n = record { ends = λ s. tt }

pub note_sound : (e : Event) → Sound Any (note e)
note_sound e = record { ends = λ s. tt }

pub read_sound : Sound Any read_byte
read_sound = record { ends = λ s. tt }

pub if_sound : {A : Type 0} {P : A → Type 0} (b : Bool) {p q : Run A} → Sound P p → Sound P q → Sound P (if b then p else q)
if_sound true h i = h
if_sound false h i = i

take_one_sound : (n : ℕ) (s : State) → SoundStep Any (take_one n s)
take_one_sound zero s = tt
take_one_sound (suc n) s = tt

pub take_call_sound : Sound Any take_call
take_call_sound = record { ends = λ s. take_one_sound s.calls s }

then_ends : {A B : Type 0} {P : A → Type 0} {Q : B → Type 0} (f : A → Run B) → ((a : A) → P a → Sound Q (f a)) → (r : Step A) → SoundStep P r → SoundStep Q (and_then r f)
then_ends f h (Goes a s) k = (h a k).ends s
then_ends f h (Stops e s) k = k

pub then_sound : {A B : Type 0} {P : A → Type 0} {Q : B → Type 0} {p : Run A} {f : A → Run B} → Sound P p → ((a : A) → P a → Sound Q (f a)) → Sound Q (p >>= f)
then_sound {A} {B} {P} {Q} {p} {f} l h = record { ends = λ s. then_ends {P = P} {Q = Q} f h (p s) (l.ends s) }
