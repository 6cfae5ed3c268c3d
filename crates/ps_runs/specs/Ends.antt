-- The outcome of a run (this project's own).
use Rattle.std.specs.Prelude.{ℤ, Option, Some, None}
use Rattle.ps_base.specs.declared.faults.Place.{Place}
use Rattle.byte_store.specs.Outcome.{Outcome, End, Returned, Wrong}
use Rattle.ps_runs.specs.Runs.{Step, Goes, Stops, Halt, Ends, RunOnly}

-- an integer is the result of a program; any other value is Wrong where the program begins
abbrev pub result : Place → Option ℤ → End
result at None = Wrong at
result at (Some i) = Returned i

abbrev pub end_of : Halt → End
end_of (Ends e) = e
end_of (RunOnly at) = Wrong at

-- what a run came to that began at a place, where `integer` says which values are integers
abbrev pub outcome : {V : Type 0} → (V → Option ℤ) → Place → Step V V → Outcome
outcome integer at (Goes v s) = record { events = s.events; depth = s.deepest; end = result at (integer v) }
outcome integer at (Stops h s) = record { events = s.events; depth = s.deepest; end = end_of h }
