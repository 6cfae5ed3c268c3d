-- What it means that two runs agree, and that one is no deeper than another (this project's own).
--
-- Read `Agree X Y` as 'Y does all that X does, and nothing else, as long as X is defined', and `Shallow above X Y` as 'Y goes at most
-- `above` deeper than X, as long as X is defined'. The laws of both stand in Laws.
use Rattle.std.specs.Prelude.{◌≡◌, ◌≢◌, ℕ, ℤ, ◌+◌, ◌≤◌, ◌⊎◌, List}
use Rattle.byte_store.specs.declared.event.Event.{Event}
use Rattle.byte_store.specs.Outcome.{Outcome, Outcomes, Returned, Running, IsUndefined, IsSound, Begins}

-- the outcome is undefined, after a front of these events
pub record IsUndefinedWithin (o : Outcome) (events : List Event) : Type 0 where
  pub ends : IsUndefined o.end
  pub before : Begins o.events events

-- the outcome is this result, after exactly these events
pub record IsReturned (o : Outcome) (value : ℤ) (events : List Event) : Type 0 where
  pub ends : o.end ≡ Returned value
  pub did : o.events ≡ events

-- what X does, Y does
pub record DoesAll (X Y : Outcomes) : Type 0 where
  pub returns : (n : ℕ) (value : ℤ) (events : List Event) → IsReturned (X n) value events → (m : ℕ) × IsReturned (Y m) value events
  pub performs : (n : ℕ) → (m : ℕ) × Begins (X n).events (Y m).events

-- what Y does, X does, or X is undefined before
pub record DoesOnly (X Y : Outcomes) : Type 0 where
  pub returns :
      (m : ℕ) (value : ℤ) (events : List Event) →
      IsReturned (Y m) value events → (n : ℕ) × (IsReturned (X n) value events ⊎ IsUndefinedWithin (X n) events)
  pub performs : (m : ℕ) → (n : ℕ) × (Begins (Y m).events (X n).events ⊎ IsUndefinedWithin (X n) (Y m).events)
  pub undefined : (m : ℕ) → IsUndefined (Y m).end → (n : ℕ) × IsUndefinedWithin (X n) (Y m).events

-- the two runs agree
pub record Agree (X Y : Outcomes) : Type 0 where
  pub all : DoesAll X Y
  pub only : DoesOnly X Y

-- Y is at most `above` deeper than X, or X is undefined before
pub record Shallow (above : ℕ) (X Y : Outcomes) : Type 0 where
  pub at : (m : ℕ) → (n : ℕ) × (((Y m).depth ≤ (X n).depth + above) ⊎ IsUndefinedWithin (X n) (Y m).events)

-- the two runs have the same outcome for each bound
abbrev pub IsSameEach : Outcomes → Outcomes → Type 0
IsSameEach X Y = (n : ℕ) → X n ≡ Y n

-- the law on a larger bound: it keeps an outcome that is no longer Running, and extends the events of a Running one
pub record KeepsWhatItHas (X : Outcomes) : Type 0 where
  pub keeps : (n m : ℕ) → n ≤ m → (X n).end ≢ Running → X m ≡ X n
  pub extends : (n m : ℕ) → n ≤ m → (X n).end ≡ Running → Begins (X n).events (X m).events

-- no bound has the run Wrong or out of cells
abbrev pub IsSoundRun : Outcomes → Type 0
IsSoundRun X = (n : ℕ) → IsSound (X n).end
