use Rattle.std.proofs.Common.{length}
use Rattle.ps_evaluator.proofs.turns.+body_for.Given as goal

abbrev pub decreases-body_for : goal.decreases-body_for
decreases-body_for l = length l.branches.now
