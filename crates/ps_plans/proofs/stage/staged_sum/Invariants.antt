use Rattle.std.proofs.Common.{◌≡◌, ◌++◌, length}
use Rattle.ps_plans.specs.Nodes.{staged_sum as staged_sum_spec}
use Rattle.ps_plans.specs.Seen.{seen_all, seen_operands}
use Rattle.ps_plans.proofs.stage.staged_sum.Given as goal

abbrev pub invariant-left : goal.invariant-left
invariant-left l = seen_all l.all.items ++ staged_sum_spec l.level (seen_operands l.left.items) ≡ staged_sum_spec l.level (seen_operands l.fn.operands.items)

abbrev pub decreases-left : goal.decreases-left
decreases-left l = length l.left.items
