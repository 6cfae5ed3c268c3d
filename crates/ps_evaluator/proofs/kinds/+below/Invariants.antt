use Rattle.std.proofs.Common.{length}
use Rattle.ps_evaluator.proofs.kinds.+below.Given as goal

abbrev pub decreases-below : goal.decreases-below
decreases-below l = length l.xs.now
