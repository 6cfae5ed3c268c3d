use Rattle.std.proofs.Common.{◌≡◌, drop}
use Rattle.ps_captured.specs.InsideReading.{sights}
use Rattle.ps_captured.specs.InsideTables.{first_among}
use Rattle.ps_captured.proofs.fixed.first_in.Given as goal

-- what the rest adds ends as what all adds
abbrev pub invariant-loop-one : goal.invariant-loop-one
invariant-loop-one l = first_among l.locals (sights (drop l.one-index l.seen)) ≡ first_among l.locals (sights l.seen)
