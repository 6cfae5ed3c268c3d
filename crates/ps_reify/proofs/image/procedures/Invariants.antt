use Rattle.std.proofs.Common.{drop, length, ◌≤◌}
use Rattle.ps_reify.specs.InsideWork.{IsTable}
use Rattle.ps_reify.proofs.image.procedures.Given as goal

abbrev pub invariant-loop-i : goal.invariant-loop-i
invariant-loop-i l = record { within : l.i ≤ length l.forms; table : IsTable l.count (drop l.i l.forms) l.table }

abbrev pub decreases-loop-i : goal.decreases-loop-i
decreases-loop-i l = l.i
