use Rattle.std.proofs.Common.{◌+◌, ◌*◌}
use Rattle.hygiene_cases.proofs.bench.Bench.+showing.Given as goal

abbrev pub decreases-show : goal.decreases-show
decreases-show l = 3 * l.levels

abbrev pub decreases-show_all : goal.decreases-show_all
decreases-show_all l = 3 * l.levels + 1

abbrev pub decreases-show_lambda : goal.decreases-show_lambda
decreases-show_lambda l = 3 * l.levels + 2

abbrev pub decreases-show_macro : goal.decreases-show_macro
decreases-show_macro l = 3 * l.levels + 2
