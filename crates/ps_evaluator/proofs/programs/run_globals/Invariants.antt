use Rattle.std.proofs.Common.{◌≡◌, take}
use Rattle.ps_meaning.specs.Source.{run_globals}
use Rattle.ps_evaluator.proofs.programs.run_globals.Given as goal

abbrev pub invariant-loop-g : goal.invariant-loop-g
invariant-loop-g l = l.all ≡ run_globals l.kernel 0 (take l.g l.values)
