use Rattle.std.proofs.Common.{◌≡◌, drop, ◌++◌, map}
use Rattle.ps_captured.specs.InsideKeeping.{all_named, named_in}
use Rattle.ps_captured.proofs.named.all_named.Given as goal

-- what the rest adds ends as what all adds
abbrev pub invariant-loop-lambda : goal.invariant-loop-lambda
invariant-loop-lambda l = l.named ++ map (named_in l.lambdas) (drop l.lambda-index l.lambdas) ≡ all_named l.lambdas
