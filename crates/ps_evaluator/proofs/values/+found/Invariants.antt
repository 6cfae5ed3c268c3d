use Rattle.std.proofs.Common.{length}
use Rattle.ps_evaluator.proofs.values.+found.Given as goal

abbrev pub decreases-found : goal.decreases-found
decreases-found l = length l.env.now
