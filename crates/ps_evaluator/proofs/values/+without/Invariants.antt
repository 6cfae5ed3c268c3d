use Rattle.std.proofs.Common.{length}
use Rattle.ps_evaluator.proofs.values.+without.Given as goal

abbrev pub decreases-without : goal.decreases-without
decreases-without l = length l.env.now
