use Rattle.std.proofs.Common.{◌≡◌, drop, length, ◌-◌}
use Rattle.ps_survive.specs.Steps.{cell_steps}
use Rattle.ps_reify.proofs.find.next_cell.Given as goal

abbrev pub invariant-loop-i : goal.invariant-loop-i
invariant-loop-i l = cell_steps (drop l.i l.cells) ≡ cell_steps (drop l.from l.cells)

abbrev pub decreases-loop-i : goal.decreases-loop-i
decreases-loop-i l = length l.cells - l.i
