-- What an evaluation has to do with the source's meaning.
use Rattle.std.specs.Prelude.{◌≡◌}
use Rattle.byte_store.specs.Outcome.{Outcome, End, Returned, Running, Undefined, Wrong}
use Rattle.ps_evaluator.specs.declared.evaluating.Ended.{Ended}
use Rattle.ps_evaluator.specs.declared.evaluating.Ended.TheVariants as ended
use Rattle.ps_evaluator.specs.declared.evaluating.Evaluated.{Evaluated}
use Rattle.ps_evaluator.specs.declared.evaluating.Evaluated.TheVariants.{Finished, Unfinished, Unsupported}

abbrev pub end_of : Ended → End
end_of (ended.Returned i) = Returned i
end_of ended.Running = Running
end_of (ended.Undefined op at) = Undefined op at
end_of (ended.Wrong at) = Wrong at

-- an evaluation that is finished has come to this outcome
abbrev pub ComesTo : Evaluated → Outcome → Type 0
ComesTo (Finished f) o = o ≡ record { events = f.events; depth = f.depth; end = end_of f.end }
ComesTo Unfinished o = Unit {0}
ComesTo (Unsupported at) o = Unit {0}
