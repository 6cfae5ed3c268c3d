-- Parts of runs: what evaluating does to the state of a run, as a state monad with an end (this project's own).
--
-- Read `p >>= f` as: p is done, and then f of its value, unless p stopped the run. Each tree that is run by calls says what
-- its nodes do in these words: the kernel, and the programs without procedures as values.
use Rattle.std.specs.Prelude.{ℕ, List, [], Option, Some, None}
use Rattle.ps_base.specs.declared.faults.Place.{Place}
use Rattle.byte_store.specs.declared.event.Event.{Event}
use Rattle.byte_store.specs.Outcome.{End, Wrong}
use Rattle.byte_store.specs.Worlds.{Surroundings}
use Rattle.byte_store.specs.Blocks.{Memory}

-- the values of locals, a pair for each: where a local stands twice, the first counts
abbrev pub Env : Type 0 → Type 0
Env V = List (ℕ × V)

-- the state of a run whose values are of type V
pub record State (V : Type 0) : Type 0 where
  -- how many procedures may still be entered
  pub calls : ℕ
  -- how many cells may still be made, where there is a limit
  pub cells : Option ℕ
  pub memory : Memory V
  -- the values of definitions, by their numbers, where they have one
  pub globals : List (Option V)
  -- the values of the locals in scope
  pub locals : Env V
  -- the input and the grants that are left
  pub world : Surroundings
  -- the operations so far
  pub events : List Event
  -- the greatest depth so far
  pub deepest : ℕ

-- how a run stops: at an end, or, at compile time, at what has a meaning at run time alone
pub data Halt : Type 0 where
  Ends : (end : End) → Halt
  RunOnly : (place : Place) → Halt

-- a value and the state after it, or why the run stops and the state there
pub data Step (V A : Type 0) : Type 0 where
  Goes : (value : A) (state : State V) → Step V A
  Stops : (halt : Halt) (state : State V) → Step V A

abbrev pub Run : Type 0 → Type 0 → Type 0
Run V A = State V → Step V A

module _ {V : Type 0} where
  abbrev pub and_then : {A B : Type 0} → Step V A → (A → Run V B) → Step V B
  and_then (Goes a s) f = f a s
  and_then (Stops h s) f = Stops h s

  -- one part and then, with its value, another
  infixl 10 ◌>>=◌
  abbrev pub ◌>>=◌ : {A B : Type 0} → Run V A → (A → Run V B) → Run V B
  p >>= f = λ s. and_then (p s) f

  -- one part and then, whatever its value is, another
  infixl 10 ◌>>◌
  abbrev pub ◌>>◌ : {A B : Type 0} → Run V A → Run V B → Run V B
  p >> q = p >>= (λ _. q)

  abbrev pub pure : {A : Type 0} → A → Run V A
  pure a = λ s. Goes a s

  -- a run that stopped has no locals
  abbrev pub stopped : State V → State V
  stopped s = record s { locals = [] }

  abbrev pub stop : {A : Type 0} → Halt → Run V A
  stop h = λ s. Stops h (stopped s)

  -- what an option holds, or Wrong at a place where it holds nothing
  abbrev pub or_wrong : {A : Type 0} → Place → Option A → Run V A
  or_wrong at None = stop (Ends (Wrong at))
  or_wrong at (Some a) = pure a
