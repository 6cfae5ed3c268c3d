use Rattle.std.proofs.Common.{ap, ◌∙◌, List, ℤ}
use Rattle.ps_kernel.specs.Rules.{labels_in}
use Rattle.ps_kernel.specs.InsideWalks.{differ_before}
use Rattle.ps_kernel.proofs.LabelsDiffer.{branch_again, branch_alone}
use Rattle.ps_kernel.proofs.validity.branches.all_differ.Goals as goal

pub returns-then-not-differ_from : goal.returns-then-not-differ_from
returns-then-not-differ_from c = branch_again c.in-Some.branch.now c.in-Some.more.now c.args.branches.now c.loop-branch.rest.now c.differ_from.result c.in-Some.ensures.cases.0 (c.differ_from.ensures ∙ ap (λ (ls : List ℤ). differ_before ls (labels_in c.in-Some.more.now)) c.as_slice.ensures) c.if-not-differ_from.true c.loop-branch.invariant

pub loop-branch-preserved : goal.loop-branch-preserved
loop-branch-preserved c = branch_alone c.in-Some.branch.now c.in-Some.more.now c.args.branches.now c.loop-branch.rest.now c.differ_from.result c.in-Some.ensures.cases.0 (c.differ_from.ensures ∙ ap (λ (ls : List ℤ). differ_before ls (labels_in c.in-Some.more.now)) c.as_slice.ensures) c.if-not-differ_from.false c.loop-branch.invariant
