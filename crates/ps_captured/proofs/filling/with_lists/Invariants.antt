use Rattle.std.proofs.Common.{◌≡◌, ◌++◌, reverse, length}
use Rattle.ps_captured.specs.InsideKeeping.{with_lists}
use Rattle.ps_captured.proofs.filling.with_lists.Given as goal

-- the front with its lists, and what was taken from behind
abbrev pub invariant-loop-lambda : goal.invariant-loop-lambda
invariant-loop-lambda l = (with_lists l.lambdas l.lists ++ reverse l.behind ≡ with_lists l.fn.lambdas l.fn.lists) × (length l.lists ≡ length l.lambdas)

abbrev pub decreases-loop-lambda : goal.decreases-loop-lambda
decreases-loop-lambda l = length l.lambdas
