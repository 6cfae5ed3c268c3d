use Rattle.std.proofs.Common.{◌+◌, ◌*◌}
use Rattle.ps_unify.proofs.searching.+searching.Given as goal

abbrev pub decreases-search : goal.decreases-search
decreases-search l = 2 * l.room

abbrev pub decreases-search_all : goal.decreases-search_all
decreases-search_all l = 2 * l.room + 1
