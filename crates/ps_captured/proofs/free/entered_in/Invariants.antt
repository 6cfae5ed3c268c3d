use Rattle.std.proofs.Common.{◌≡◌, drop, []}
use Rattle.std.specs.List.{fold}
use Rattle.ps_captured.specs.InsideReading.{sights}
use Rattle.ps_captured.specs.InsideTables.{with_entered}
use Rattle.ps_captured.proofs.free.entered_in.Given as goal

-- what the rest adds ends as what all adds
abbrev pub invariant-loop-one : goal.invariant-loop-one
invariant-loop-one l = fold with_entered l.locals (sights (drop l.one-index l.seen)) ≡ fold with_entered [] (sights l.seen)
