use Rattle.std.proofs.Common.{◌≡◌, drop}
use Rattle.std.specs.List.{fold}
use Rattle.ps_captured.specs.InsideReading.{put_entry, sights}
use Rattle.ps_captured.proofs.reading.enter.Given as goal

-- what the rest adds ends as what all adds
abbrev pub invariant-loop-entry : goal.invariant-loop-entry
invariant-loop-entry l = fold put_entry (sights l.seen) (drop l.entry-index l.group) ≡ fold put_entry (sights l.fn.seen) l.group
