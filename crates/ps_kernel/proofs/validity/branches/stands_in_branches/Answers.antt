use Rattle.std.proofs.Common.{ap, ◌∙◌}
use Rattle.ps_kernel.specs.Rules.{is_among}
use Rattle.ps_kernel.proofs.LabelsDiffer.{stands_there, stands_behind}
use Rattle.ps_kernel.proofs.validity.branches.stands_in_branches.Goals as goal

pub returns-then-stands_among : goal.returns-then-stands_among
returns-then-stands_among c = stands_there c.args.label.now c.args.branches.now c.loop-branch.branch-index c.branch-item.result c.stands_among.result c.loop-branch-test.true c.branch-item.is (c.stands_among.ensures ∙ ap (is_among c.args.label.now) c.as_slice.ensures) c.if-stands_among.true c.loop-branch.invariant

pub loop-branch-preserved : goal.loop-branch-preserved
loop-branch-preserved c = stands_behind c.args.label.now c.args.branches.now c.loop-branch.branch-index c.branch-item.result c.stands_among.result c.loop-branch-test.true c.branch-item.is (c.stands_among.ensures ∙ ap (is_among c.args.label.now) c.as_slice.ensures) c.if-stands_among.false c.loop-branch.invariant
