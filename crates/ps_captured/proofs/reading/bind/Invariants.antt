use Rattle.std.proofs.Common.{◌≡◌, drop}
use Rattle.std.specs.List.{fold}
use Rattle.ps_captured.specs.InsideReading.{put_bound, sights}
use Rattle.ps_captured.proofs.reading.bind.Given as goal

-- what the rest adds ends as what all adds
abbrev pub invariant-loop-local : goal.invariant-loop-local
invariant-loop-local l = fold put_bound (sights l.seen) (drop l.local-index l.locals) ≡ fold put_bound (sights l.fn.seen) l.locals
