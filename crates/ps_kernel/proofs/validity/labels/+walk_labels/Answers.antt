use Rattle.std.proofs.Common.{◌-◌, false, sym, ◌∙◌}
use Rattle.ps_kernel.specs.Marks.{Node}
use Rattle.ps_kernel.specs.InsideSteps.{Passes, OneLabel, Leaf, label_of, nowhere, steps}
use Rattle.ps_kernel.proofs.StepsOfANode.{over_three, of_no_levels, of_rest}
use Rattle.ps_kernel.proofs.validity.labels.+walk_labels.Goals as goal

pub returns-then-left-eq0 : goal.returns-then-left-eq0
returns-then-left-eq0 t c = rw (c.if-left-eq0.true, of_no_levels) c.meet_too_deep.ensures

pub returns-else-left-eq0 : goal.returns-else-left-eq0
returns-else-left-eq0 t c =
    let k = c.args.kernel.now in
    let n = c.args.left - 1 in
    rw (of_rest k c.args.left c.args.tail c.args.labels.now c.in-Some.field-0-0.now c.in-Some.rest.now c.in-Some.ensures.cases.0 (sym c.is_empty.ensures ∙ c.if-is_empty.false) c.if-left-eq0.false)
    (c.walk_labels.ensures
    ∙ over_three k c.args.walk.now c.meet_node.new.walk c.walk_label-else-left-eq0.new.walk c.walk_leaf-else-left-eq0.new.walk (Passes (Node nowhere)) (steps k n false OneLabel) (steps k n c.args.tail Leaf) (steps k n c.args.tail (label_of c.in-Some.rest.now))
    c.meet_node.ensures c.walk_label-else-left-eq0.ensures c.walk_leaf-else-left-eq0.ensures)
