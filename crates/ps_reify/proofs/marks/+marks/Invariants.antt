use Rattle.std.proofs.Common.{◌≡◌, ◌++◌, drop, map}
use Rattle.ps_survive.specs.Bodies.{marks_of, branch_marks, joined}
use Rattle.ps_reify.proofs.marks.+marks.Given as goal

abbrev pub invariant-push_all-loop-e : goal.invariant-push_all-loop-e
invariant-push_all-loop-e l = l.out ++ joined (map marks_of (drop l.e-index l.es)) ≡ l.fn.out ++ joined (map marks_of l.es)

abbrev pub invariant-push_branches-loop-branch : goal.invariant-push_branches-loop-branch
invariant-push_branches-loop-branch l = l.out ++ joined (map branch_marks (drop l.branch-index l.branches)) ≡ l.fn.out ++ joined (map branch_marks l.branches)
