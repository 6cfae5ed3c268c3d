use Rattle.ps_kernel.proofs.StepsOfANode.{of_no_levels, of_leaf}
use Rattle.ps_kernel.proofs.validity.labels.walk_leaf.Goals as goal

pub returns-then-left-eq0 : goal.returns-then-left-eq0
returns-then-left-eq0 c = rw (c.if-left-eq0.true, of_no_levels) c.meet_too_deep.ensures

pub returns-else-left-eq0 : goal.returns-else-left-eq0
returns-else-left-eq0 c = rw (of_leaf c.args.kernel.now c.args.left c.args.tail c.if-left-eq0.false) c.meet_node.ensures
