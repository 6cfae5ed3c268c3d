use Rattle.std.proofs.Common.{length}
use Rattle.ps_evaluator.proofs.texts.+group_at.Given as goal

abbrev pub decreases-group_at : goal.decreases-group_at
decreases-group_at l = length l.tale.now
