use Rattle.std.proofs.Common.{length}
use Rattle.ps_evaluator.proofs.closures.+with_group_bound.Given as goal

abbrev pub decreases-with_group_bound : goal.decreases-with_group_bound
decreases-with_group_bound l = length l.group.now
