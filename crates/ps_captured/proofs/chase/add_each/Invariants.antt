use Rattle.std.proofs.Common.{◌≡◌, drop, ◌++◌}
use Rattle.ps_captured.proofs.chase.add_each.Given as goal

-- what the rest adds ends as what all adds
abbrev pub invariant-loop-lambda : goal.invariant-loop-lambda
invariant-loop-lambda l = l.order ++ drop l.lambda-index l.lambdas ≡ l.fn.order ++ l.lambdas
