use Rattle.std.proofs.Common.{length}
use Rattle.ps_evaluator.proofs.values.+with_put.Given as goal

abbrev pub decreases-with_put : goal.decreases-with_put
decreases-with_put l = length l.env.now
