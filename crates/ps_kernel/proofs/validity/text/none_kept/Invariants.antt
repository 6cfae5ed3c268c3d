use Rattle.std.proofs.Common.{◌≡◌, drop}
use Rattle.ps_kernel.specs.InsideWalks.{keeps_none}
use Rattle.ps_kernel.proofs.validity.text.none_kept.Given as goal

-- all is as the rest is
abbrev pub invariant-loop-lambda : goal.invariant-loop-lambda
invariant-loop-lambda l = keeps_none l.table (drop l.lambda-index l.lambdas) ≡ keeps_none l.table l.lambdas
