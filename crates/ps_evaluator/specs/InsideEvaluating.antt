-- What the parts of an evaluation promise each other. No public clause cites this file.
use Rattle.std.specs.Prelude.{◌≡◌, [], Option}
use Rattle.ps_base.specs.declared.faults.Place.{Place}
use Rattle.byte_store.specs.Outcome.{End}
use Rattle.ps_kernel.specs.declared.kernel.Kernel.{Kernel}
use Rattle.ps_runs.specs.Runs.{Goes, Stops, ◌>>=◌, or_wrong, stopped}
use Rattle.ps_runs.specs.Ends.{outcome, result}
use Rattle.ps_meaning.specs.declared.values.RunValue.{RunValue}
use Rattle.ps_meaning.specs.Eval.{RunEnter}
use Rattle.ps_meaning.specs.Source.{integer_of}
use Rattle.ps_evaluator.specs.declared.machine.Control.{Control}
use Rattle.ps_evaluator.specs.declared.machine.Machine.{Machine}
use Rattle.ps_evaluator.specs.declared.run.Ending.{Ending}
use Rattle.ps_evaluator.specs.declared.run.Ending.TheVariants as ending
use Rattle.ps_evaluator.specs.declared.evaluating.Evaluated.{Evaluated}
use Rattle.ps_evaluator.specs.declared.evaluating.Evaluated.TheVariants.{Unfinished}
use Rattle.ps_evaluator.specs.Evaluating.{ComesTo}
use Rattle.ps_evaluator.specs.InsideMachine.{now, state_of, halt_of}

-- the end of a program whose `main` gives a value
abbrev pub result_of : Place → RunValue → End
result_of at v = result at (integer_of v)

-- the call of `main`, where it has a value
abbrev pub Begins : Kernel → Place → Option RunValue → Control → Type 0
Begins k at o c = (f : RunEnter) → (or_wrong at o >>= (λ v. f 0 at v [])) ≡ now k f c

-- what came of a run of the machine that ended so
abbrev pub IsSeen : Place → Ending → Machine → Evaluated → Type 0
IsSeen at (ending.Gave v) m r = ComesTo r (outcome integer_of at (Goes v (state_of m)))
IsSeen at (ending.Halted h) m r = ComesTo r (outcome integer_of at (Stops (halt_of h) (stopped (state_of m))))
IsSeen at ending.Unfinished m r = r ≡ Unfinished
