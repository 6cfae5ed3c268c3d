use Rattle.std.proofs.Common.{◌≡◌, drop}
use Rattle.std.specs.List.{fold}
use Rattle.ps_captured.specs.InsideReading.{sights}
use Rattle.ps_captured.specs.InsideTables.{with_free}
use Rattle.ps_captured.proofs.free.add_each_free.Given as goal

-- what the rest adds ends as what all adds
abbrev pub invariant-loop-one : goal.invariant-loop-one
invariant-loop-one l = fold (with_free l.bound) l.locals (sights (drop l.one-index l.seen)) ≡ fold (with_free l.bound) l.fn.locals (sights l.seen)
