use Rattle.std.proofs.Common.{◌≡◌, ◌++◌, reverse, length}
use Rattle.ps_captured.proofs.filling.in_reverse.Given as goal

-- what was taken stands before the rest
abbrev pub invariant-loop-lambda : goal.invariant-loop-lambda
invariant-loop-lambda l = l.after ++ reverse l.lambdas ≡ reverse l.fn.lambdas

abbrev pub decreases-loop-lambda : goal.decreases-loop-lambda
decreases-loop-lambda l = length l.lambdas
