use Rattle.std.proofs.Common.{◌+◌, ◌*◌}
use Rattle.ps_unify.proofs.sizes.+measuring.Given as goal

abbrev pub decreases-left_after : goal.decreases-left_after
decreases-left_after l = 2 * l.room

abbrev pub decreases-left_after_all : goal.decreases-left_after_all
decreases-left_after_all l = 2 * l.room + 1
