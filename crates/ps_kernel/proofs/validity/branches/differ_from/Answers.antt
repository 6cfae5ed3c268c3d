use Rattle.ps_kernel.specs.Rules.{labels_in}
use Rattle.ps_kernel.proofs.LabelsDiffer.{label_again, label_behind, label_alone}
use Rattle.ps_kernel.proofs.validity.branches.differ_from.Goals as goal

pub returns-then-stands_among : goal.returns-then-stands_among
returns-then-stands_among c = label_again c.in-Some.label.now c.in-Some.more.now c.args.labels.now (labels_in c.args.branches.now) c.loop-label.rest.now c.stands_among.result c.in-Some.ensures.cases.0 c.stands_among.ensures c.if-stands_among.true c.loop-label.invariant

pub returns-then-stands_in_branches : goal.returns-then-stands_in_branches
returns-then-stands_in_branches c = label_behind c.in-Some.label.now c.in-Some.more.now c.args.labels.now (labels_in c.args.branches.now) c.loop-label.rest.now c.stands_among.result c.stands_in_branches.result c.in-Some.ensures.cases.0 c.stands_among.ensures c.if-stands_among.false c.stands_in_branches.ensures c.if-stands_in_branches.true c.loop-label.invariant

pub loop-label-preserved : goal.loop-label-preserved
loop-label-preserved c = label_alone c.in-Some.label.now c.in-Some.more.now c.args.labels.now (labels_in c.args.branches.now) c.loop-label.rest.now c.stands_among.result c.stands_in_branches.result c.in-Some.ensures.cases.0 c.stands_among.ensures c.if-stands_among.false c.stands_in_branches.ensures c.if-stands_in_branches.false c.loop-label.invariant
