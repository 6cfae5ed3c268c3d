-- Parts of a run: what evaluating does to the state of a run, as a state monad with an end (this project's own).
use Rattle.std.specs.Prelude.{ℕ, ℤ, zero, suc, max, List, [], ◌∷◌, ◌++◌, Option, Some, None}
use Rattle.byte_store.specs.declared.event.Event.{Event}
use Rattle.byte_store.specs.declared.event.Event.TheVariants.{Input}
use Rattle.byte_store.specs.Outcome.{End, Running}
use Rattle.byte_store.specs.Worlds.{Surroundings, next_byte, rest_of}

pub record State : Type 0 where
  -- how many procedures may still be entered
  pub calls : ℕ
  -- the input and the grants that are left
  pub world : Surroundings
  -- the operations so far
  pub events : List Event
  -- the greatest depth so far
  pub deepest : ℕ

-- a value and the state after it, or an end and the state there
pub data Step (A : Type 0) : Type 0 where
  Goes : (value : A) (state : State) → Step A
  Stops : (end : End) (state : State) → Step A

abbrev pub Run : Type 0 → Type 0
Run A = State → Step A

abbrev pub and_then : {A B : Type 0} → Step A → (A → Run B) → Step B
and_then (Goes a s) f = f a s
and_then (Stops e s) f = Stops e s

-- one part and then, with its value, another
infixl 10 ◌>>=◌
abbrev pub ◌>>=◌ : {A B : Type 0} → Run A → (A → Run B) → Run B
p >>= f = λ s. and_then (p s) f

-- one part and then, whatever its value is, another
infixl 10 ◌>>◌
abbrev pub ◌>>◌ : {A B : Type 0} → Run A → Run B → Run B
p >> q = p >>= (λ _. q)

abbrev pub pure : {A : Type 0} → A → Run A
pure a = λ s. Goes a s

abbrev pub stop : {A : Type 0} → End → Run A
stop e = λ s. Stops e s

-- what an option holds, or an end where it holds nothing
abbrev pub known : {A : Type 0} → End → Option A → Run A
known e None = stop e
known e (Some a) = pure a

abbrev pub take_one : ℕ → Run (Unit {0})
take_one zero = stop Running
take_one (suc n) = λ s. Goes tt (record s { calls = n })

-- One procedure is entered, of those that may be. Where none may, the run is still Running.
abbrev pub take_call : Run (Unit {0})
take_call = λ s. take_one s.calls s

abbrev pub at_depth : ℕ → Run (Unit {0})
at_depth d = λ s. Goes tt (record s { deepest = max s.deepest d })

-- an operation that is seen from outside
abbrev pub note : Event → Run (Unit {0})
note e = λ s. Goes tt (record s { events = s.events ++ e ∷ [] })

-- the next byte of the input is taken, or -1 at its end
abbrev pub read_byte : Run ℤ
read_byte = λ s. (let byte = next_byte s.world.input in
    Goes byte (record s { world = record s.world { input = rest_of s.world.input }; events = s.events ++ Input byte ∷ [] }))
