use Rattle.std.proofs.Common.{◌≡◌, drop}
use Rattle.std.specs.List.{fold}
use Rattle.ps_captured.specs.InsideReading.{sights}
use Rattle.ps_captured.specs.InsideTables.{with_kept}
use Rattle.ps_captured.proofs.fixed.add_all_kept.Given as goal

-- what the rest adds ends as what all adds
abbrev pub invariant-loop-one : goal.invariant-loop-one
invariant-loop-one l = fold (with_kept l.lambdas) l.locals (sights (drop l.one-index l.seen)) ≡ fold (with_kept l.lambdas) l.fn.locals (sights l.seen)
