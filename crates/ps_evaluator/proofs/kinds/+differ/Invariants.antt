use Rattle.std.proofs.Common.{length}
use Rattle.ps_evaluator.proofs.kinds.+differ.Given as goal

abbrev pub decreases-differ : goal.decreases-differ
decreases-differ l = length l.xs.now
