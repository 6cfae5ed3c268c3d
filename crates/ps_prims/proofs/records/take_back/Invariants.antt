-- The first ones are as they were.
use Rattle.std.proofs.Common.{◌≡◌, ◌≤◌, length, take}
use Rattle.ps_prims.proofs.records.take_back.Given as goal

abbrev pub invariant-loop-events : goal.invariant-loop-events
invariant-loop-events l = record {
  long : l.kept ≤ length l.events;
  first : take l.kept l.events ≡ take l.kept l.fn.events;
}

abbrev pub decreases-loop-events : goal.decreases-loop-events
decreases-loop-events l = length l.events
