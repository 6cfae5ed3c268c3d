use Rattle.std.proofs.Common.{◌-◌, false, ◌∙◌}
use Rattle.ps_kernel.specs.Marks.{Node}
use Rattle.ps_kernel.specs.InsideSteps.{Passes, Leaf, nowhere, steps}
use Rattle.ps_kernel.proofs.StepsOfANode.{over_two, of_no_levels, of_label}
use Rattle.ps_kernel.proofs.validity.labels.walk_label.Goals as goal

pub returns-then-left-eq0 : goal.returns-then-left-eq0
returns-then-left-eq0 c = rw (c.if-left-eq0.true, of_no_levels) c.meet_too_deep.ensures

pub returns-else-left-eq0 : goal.returns-else-left-eq0
returns-else-left-eq0 c =
    let a = steps c.args.kernel.now (c.args.left - 1) false Leaf in
    rw (of_label c.args.kernel.now c.args.left c.args.tail c.if-left-eq0.false)
    (c.walk_leaf-else-left-eq0.ensures ∙ over_two c.args.kernel.now c.args.walk.now c.meet_node.new.walk c.walk_leaf.new.walk (Passes (Node nowhere)) a a c.meet_node.ensures c.walk_leaf.ensures)
