use Rattle.std.proofs.Common.{◌≡◌, ◌≤◌, drop}
use Rattle.ps_static_eval.specs.InsideMachine.{body_for}
use Rattle.ps_static_eval.specs.InsideWeight.{branches_weight}
use Rattle.ps_static_eval.proofs.turns.body_for.Given as goal

abbrev pub invariant-loop-branch : goal.invariant-loop-branch
invariant-loop-branch l = (body_for l.label (drop l.branch-index l.branches) l.last ≡ body_for l.label l.branches l.last) × (branches_weight (drop l.branch-index l.branches) ≤ branches_weight l.branches)
