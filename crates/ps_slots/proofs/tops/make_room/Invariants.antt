use Rattle.std.proofs.Common.{◌≡◌, ℕ, get_or, length, ◌+◌, ◌-◌}
use Rattle.ps_slots.proofs.tops.make_room.Given as goal

abbrev pub invariant-loop-tops : goal.invariant-loop-tops
invariant-loop-tops g l = (y : ℕ) → get_or l.tops.items y 0 ≡ get_or l.initial.tops.items y 0

abbrev pub decreases-loop-tops : goal.decreases-loop-tops
decreases-loop-tops g l = l.x + 1 - length l.tops.items
