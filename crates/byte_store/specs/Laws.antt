-- The laws of runs (this project's own): how it is shown that two runs agree, and that one is no deeper than another. Each law is the
-- contract of a function that does nothing; what only their statements need stands beside them.
use Rattle.std.specs.Prelude.{◌≡◌, ◌≢◌, ℕ, ℤ, ◌+◌, ◌*◌, ◌≤◌, ◌⊎◌, List}
use Rattle.byte_store.specs.declared.event.Event.{Event}
use Rattle.byte_store.specs.Outcome.{Outcome, Outcomes, End, Returned, Running, Undefined, Stuck, Wrong, StoppedAtCells, IsUndefined, Begins}
use Rattle.byte_store.specs.Agree.{IsUndefinedWithin, IsReturned, DoesAll, DoesOnly, Agree, Shallow, IsSameEach, KeepsWhatItHas, IsSoundRun}

-- The same, where the X that is deep enough has done no more than Y. Each layer behind the first is compared so, so that the
-- comparisons compose.
pub record ShallowSoFar (above : ℕ) (X Y : Outcomes) : Type 0 where
  pub at :
      (m : ℕ) →
      (n : ℕ) × ((((Y m).depth ≤ (X n).depth + above) × Begins (X n).events (Y m).events) ⊎ IsUndefinedWithin (X n) (Y m).events)

-- where Y is undefined, X is before
abbrev pub IsUndefinedOnlyAfter : Outcomes → Outcomes → Type 0
IsUndefinedOnlyAfter X Y = (m : ℕ) → IsUndefined (Y m).end → (n : ℕ) × IsUndefinedWithin (X n) (Y m).events

-- the comparisons of depth compose
abbrev pub ShallowComposes : Type 0
ShallowComposes =
    (X Y Z : Outcomes) (above more : ℕ) → IsUndefinedOnlyAfter X Y → Shallow above X Y → ShallowSoFar more Y Z → Shallow (above + more) X Z

abbrev pub ShallowSoFarComposes : Type 0
ShallowSoFarComposes =
    (X Y Z : Outcomes) (above more : ℕ) →
    IsUndefinedOnlyAfter X Y → ShallowSoFar above X Y → ShallowSoFar more Y Z → ShallowSoFar (above + more) X Z

-- a run that is the same for each bound agrees, and is as deep
abbrev pub SameEachAgrees : Type 0
SameEachAgrees = (X Y Z : Outcomes) (above : ℕ) → IsSameEach X Y → Agree Y Z → Shallow above Y Z → Agree X Z × Shallow above X Z

abbrev pub AgreeIsTransitive : Type 0
AgreeIsTransitive = (X Y Z : Outcomes) → Agree X Y → Agree Y Z → Agree X Z

-- X is over at some bound, or Y is still Running at a bound from m on, after exactly X's events
pub record Progresses (X Y : Outcomes) (m : ℕ) : Type 0 where
  pub by : (n : ℕ) × (((X n).end ≢ Running) ⊎ ((k : ℕ) × (m ≤ k) × ((Y k).end ≡ Running) × ((Y k).events ≡ (X n).events)))

-- the law of progress
abbrev pub ProgressGivesAgree : Type 0
ProgressGivesAgree =
    (X Y : Outcomes) → KeepsWhatItHas X → KeepsWhatItHas Y → IsSoundRun X → DoesAll X Y → ((m : ℕ) → Progresses X Y m) → DoesOnly X Y

-- the end of one outcome stands for that of the other: where the one is undefined, the other may go on or end in any way
abbrev pub StandsFor : End → End → Type 0
StandsFor (Returned value) f = f ≡ Returned value
StandsFor Running f = f ≡ Running
StandsFor (Undefined op place) f = Unit {0}
StandsFor (Stuck op) f = Unit {0}
StandsFor (Wrong place) f = f ≡ Wrong place
StandsFor StoppedAtCells f = f ≡ StoppedAtCells

-- the same events, and an end that stands for the other
pub record Matches (o p : Outcome) : Type 0 where
  pub did : p.events ≡ o.events
  pub ends : StandsFor o.end p.end

-- Y has X's outcome for n at a bound that, while X is Running, is not less than n's share
pub record FollowsAt (share : ℕ) (X Y : Outcomes) (n : ℕ) : Type 0 where
  pub bound : ℕ
  pub enough : (X n).end ≡ Running → n ≤ (share + 1) * (bound + 1)
  pub matches : Matches (X n) (Y bound)

-- a run that follows another agrees with it: one induction over the first run's bounds gives all parts of `Agree`
abbrev pub FollowingGivesAgree : Type 0
FollowingGivesAgree =
    (share : ℕ) (X Y : Outcomes) → KeepsWhatItHas X → KeepsWhatItHas Y → IsSoundRun X → ((n : ℕ) → FollowsAt share X Y n) → Agree X Y

-- a larger bound is at least as deep
pub record Deepens (Y : Outcomes) : Type 0 where
  pub by : (n m : ℕ) → n ≤ m → (Y n).depth ≤ (Y m).depth

-- the same, where Y is at most `above` deeper there
pub record FollowsLow (share above : ℕ) (X Y : Outcomes) (n : ℕ) : Type 0 where
  pub follows : FollowsAt share X Y n
  pub low : (Y follows.bound).depth ≤ (X n).depth + above

-- a run that follows another closely is at most so much deeper
abbrev pub FollowingGivesShallow : Type 0
FollowingGivesShallow =
    (share above : ℕ) (X Y : Outcomes) →
    KeepsWhatItHas Y → Deepens Y → IsSoundRun X → ((n : ℕ) → FollowsLow share above X Y n) → Shallow above X Y

-- from one bound to the next, an outcome that is not Running stays, and events are only added
pub record Grows (o p : Outcome) : Type 0 where
  pub stays : o.end ≢ Running → p ≡ o
  pub adds : Begins o.events p.events

abbrev pub GrowingKeeps : Type 0
GrowingKeeps = (X : Outcomes) → ((n : ℕ) → Grows (X n) (X (n + 1))) → KeepsWhatItHas X

-- no bound has the run undefined
abbrev pub IsDefined : Outcomes → Type 0
IsDefined X = (n : ℕ) → IsUndefined (X n).end → ⊥

-- two runs of the same: the same results after the same events, the same events while they go on, and Y never undefined
pub record DoTheSame (X Y : Outcomes) : Type 0 where
  pub returns : (n : ℕ) (value : ℤ) (events : List Event) → IsReturned (X n) value events → (m : ℕ) × IsReturned (Y m) value events
  pub returns_only : (m : ℕ) (value : ℤ) (events : List Event) → IsReturned (Y m) value events → (n : ℕ) × IsReturned (X n) value events
  pub performs : (n : ℕ) → (m : ℕ) × Begins (X n).events (Y m).events
  pub performs_only : (m : ℕ) → (n : ℕ) × Begins (Y m).events (X n).events
  pub defined : IsDefined Y

-- where a run is never undefined, one that agrees with it does the same
abbrev pub AgreeWhereDefined : Type 0
AgreeWhereDefined = (X Y : Outcomes) → Agree X Y → IsDefined X → DoTheSame X Y
