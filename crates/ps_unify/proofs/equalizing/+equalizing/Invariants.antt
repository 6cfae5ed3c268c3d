use Rattle.std.proofs.Common.{◌+◌, ◌*◌}
use Rattle.ps_unify.proofs.equalizing.+equalizing.Given as goal

abbrev pub decreases-equalize : goal.decreases-equalize
decreases-equalize l = 5 * l.room + 3

abbrev pub decreases-equalize_headed : goal.decreases-equalize_headed
decreases-equalize_headed l = 5 * l.room + 2

abbrev pub decreases-compare : goal.decreases-compare
decreases-compare l = 5 * l.room + 1

abbrev pub decreases-compare_parts : goal.decreases-compare_parts
decreases-compare_parts l = 5 * l.room

abbrev pub decreases-equalize_all : goal.decreases-equalize_all
decreases-equalize_all l = 5 * l.room + 4
