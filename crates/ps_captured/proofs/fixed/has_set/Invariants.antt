use Rattle.std.proofs.Common.{◌≡◌, drop}
use Rattle.std.specs.List.{list_any}
use Rattle.ps_captured.specs.InsideReading.{is_assigned, sights}
use Rattle.ps_captured.proofs.fixed.has_set.Given as goal

-- what the rest adds ends as what all adds
abbrev pub invariant-loop-one : goal.invariant-loop-one
invariant-loop-one l = list_any is_assigned (sights (drop l.one-index l.seen)) ≡ list_any is_assigned (sights l.seen)
