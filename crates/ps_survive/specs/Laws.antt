-- Laws of walks and of survivors.
use Rattle.std.specs.Prelude.{◌≡◌, ◌⊎◌, true, false, List, Some, None}
use Rattle.ps_kernel.specs.declared.survivors.Survivors.{Survivors}
use Rattle.ps_kernel.specs.Lists.{Among}
use Rattle.ps_meaning.specs.Source.{Program}
use Rattle.ps_survive.specs.declared.steps.Node.{Node}
use Rattle.ps_survive.specs.declared.steps.Step.{Step}
use Rattle.ps_survive.specs.Steps.{Fault, has, AreOnce, steps_of, fault}
use Rattle.ps_survive.specs.Walk.{Reaches, End, Ended, Fails, Survives, begins}
use Rattle.ps_survive.specs.Kept.{IsSurvivors}
use Rattle.ps_survive.specs.Closed.{IsClosed, reached_by}

-- a walk ends
abbrev pub AnEnd : Type 0
AnEnd = (p : Program) → (e : End) × Survives p e

-- in one way
abbrev pub OneEnd : Type 0
OneEnd = (p : Program) (e f : End) → Survives p e → Survives p f → e ≡ f

-- nodes are what is reached
pub record IsWhole (p : Program) (found : List Node) : Type 0 where
  pub reached : (n : Node) → has found n ≡ true → Reaches p n
  pub all : (n : Node) → Reaches p n → has found n ≡ true
  pub once : AreOnce found
  -- and no step that is reached is a fault
  pub clean : (n : Node) (s : Step) → Reaches p n → Among s (steps_of p n) → fault p s ≡ None

abbrev pub SeenIsReached : Type 0
SeenIsReached = (p : Program) (found : List Node) → Survives p (Ended found) → IsWhole p found

-- a fault of a step that is reached
pub record IsFault (p : Program) (f : Fault) : Type 0 where
  pub node : Node
  pub step : Step
  pub reached : Reaches p node
  pub stands : Among step (steps_of p node)
  pub is : fault p step ≡ Some f

abbrev pub FaultIsReached : Type 0
FaultIsReached = (p : Program) (f : Fault) → Survives p (Fails f) → (begins p ≡ false) ⊎ IsFault p f

-- what was seen leads to nothing else
abbrev pub SeenIsClosed : Type 0
SeenIsClosed = (p : Program) (found : List Node) → Survives p (Ended found) → IsClosed p (reached_by found)

-- a program has one list of survivors at most
abbrev pub OneAnswer : Type 0
OneAnswer = (p : Program) (s t : Survivors) → IsSurvivors p s → IsSurvivors p t → s ≡ t
