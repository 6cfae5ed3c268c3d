use Rattle.std.proofs.Common.{◌≡◌, length}
use Rattle.ps_captured.specs.InsideKeeping.{AreCaptured}
use Rattle.ps_captured.proofs.keeping.all_kept.Given as goal

-- the lists so far
abbrev pub invariant-loop-lambda : goal.invariant-loop-lambda
invariant-loop-lambda l = AreCaptured l.kernel l.lists × (length l.lists ≡ l.lambda)
