use Rattle.std.proofs.Common.{◌≡◌, ◌++◌, drop}
use Rattle.ps_survive.specs.Bodies.{group_marks}
use Rattle.ps_reify.proofs.marks.push_group.Given as goal

abbrev pub invariant-loop-entry : goal.invariant-loop-entry
invariant-loop-entry l = l.out ++ group_marks l.at (drop l.entry-index l.group) ≡ l.fn.out ++ group_marks l.at l.group
