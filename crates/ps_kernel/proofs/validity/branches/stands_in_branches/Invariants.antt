use Rattle.std.proofs.Common.{◌≡◌, drop}
use Rattle.ps_kernel.specs.Rules.{is_among, labels_in}
use Rattle.ps_kernel.proofs.validity.branches.stands_in_branches.Given as goal

-- it is a label of all where it is one of the rest
abbrev pub invariant-loop-branch : goal.invariant-loop-branch
invariant-loop-branch l = is_among l.label (labels_in (drop l.branch-index l.branches)) ≡ is_among l.label (labels_in l.branches)
