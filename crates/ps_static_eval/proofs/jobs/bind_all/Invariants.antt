use Rattle.std.proofs.Common.{◌≡◌, ◌≤◌, ◌+◌, ◌++◌, drop, reverse}
use Rattle.ps_static_eval.specs.InsideMachine.{slots}
use Rattle.ps_static_eval.specs.InsideWeight.{cells_weight}
use Rattle.ps_static_eval.proofs.jobs.bind_all.Given as goal

abbrev pub invariant-loop-x : goal.invariant-loop-x
invariant-loop-x g l =
    (l.frames ++ slots (drop l.x-index l.parameters) (reverse l.given.items) ≡ l.fn.frames ++ slots l.parameters (reverse l.fn.given.items))
    × (cells_weight l.frames ≤ l.x-index + cells_weight l.fn.frames)
