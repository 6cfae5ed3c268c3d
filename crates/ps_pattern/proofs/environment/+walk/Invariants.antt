use Rattle.std.proofs.Common.{length}
use Rattle.ps_pattern.proofs.environment.+walk.Given as goal

abbrev pub decreases-walk : goal.decreases-walk
decreases-walk l = length l.path.now
