use Rattle.std.proofs.Common.{length}
use Rattle.ps_evaluator.proofs.values.+with_all_bound.Given as goal

abbrev pub decreases-with_all_bound : goal.decreases-with_all_bound
decreases-with_all_bound l = length l.locals.now
