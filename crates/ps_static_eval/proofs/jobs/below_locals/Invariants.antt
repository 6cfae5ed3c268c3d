use Rattle.std.proofs.Common.{◌≤◌, length}
use Rattle.ps_kernel.specs.declared.kernel.Kernel.{Kernel}
use Rattle.ps_static_eval.specs.InsideMachine.{Begins, Cells}
use Rattle.ps_static_eval.specs.InsideWeight.{cells_weight}
use Rattle.ps_static_eval.proofs.jobs.below_locals.Given as goal

abbrev pub invariant-loop-cell : goal.invariant-loop-cell
invariant-loop-cell g l = ((k : Kernel) (new : Cells) → Begins k l.frames new → Begins k l.fn.frames new) × (cells_weight l.frames ≤ cells_weight l.fn.frames)

abbrev pub decreases-loop-cell : goal.decreases-loop-cell
decreases-loop-cell g l = length l.frames
