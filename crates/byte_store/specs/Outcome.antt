-- The outcome of a run within a bound (this project's own).
use Rattle.std.specs.Prelude.{◌≡◌, ℕ, ℤ, List, ◌++◌}
use Rattle.byte_store.specs.declared.event.Event.{Event}
use Rattle.ps_base.specs.declared.faults.Op.{Op}
use Rattle.ps_base.specs.declared.faults.Place.{Place}

-- How a run stands when its bound is used up, or how it ended before. A source is undefined at a place; a machine that is stuck has none.
pub data End : Type 0 where
  Returned : (value : ℤ) → End
  Running : End
  Undefined : (op : Op) (place : Place) → End
  Stuck : (op : Op) → End
  Wrong : (place : Place) → End
  StoppedAtCells : End

-- what a run did so far, how deep it went, and how it ended
pub record Outcome : Type 0 where
  pub events : List Event
  pub depth : ℕ
  pub end : End

-- a run: its outcome for each bound
abbrev pub Outcomes : Type 0
Outcomes = ℕ → Outcome

-- the run met an operation without a meaning; a machine that is stuck counts as such
abbrev pub IsUndefined : End → Type 0
IsUndefined (Returned value) = ⊥
IsUndefined Running = ⊥
IsUndefined (Undefined op place) = Unit {0}
IsUndefined (Stuck op) = Unit {0}
IsUndefined (Wrong place) = ⊥
IsUndefined StoppedAtCells = ⊥

-- neither Wrong nor out of cells
abbrev pub IsSound : End → Type 0
IsSound (Returned value) = Unit {0}
IsSound Running = Unit {0}
IsSound (Undefined op place) = Unit {0}
IsSound (Stuck op) = Unit {0}
IsSound (Wrong place) = ⊥
IsSound StoppedAtCells = ⊥

-- one list of events is a front of another
pub record Begins (front whole : List Event) : Type 0 where
  pub rest : List Event
  pub is : whole ≡ front ++ rest
