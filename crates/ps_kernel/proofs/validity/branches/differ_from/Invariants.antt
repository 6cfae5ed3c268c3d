use Rattle.std.proofs.Common.{◌≡◌, length}
use Rattle.ps_kernel.specs.Rules.{labels_in}
use Rattle.ps_kernel.specs.InsideWalks.{differ_before}
use Rattle.ps_kernel.proofs.validity.branches.differ_from.Given as goal

-- all are as the rest is
abbrev pub invariant-loop-label : goal.invariant-loop-label
invariant-loop-label l = differ_before l.rest (labels_in l.branches) ≡ differ_before l.labels (labels_in l.branches)

abbrev pub decreases-loop-label : goal.decreases-loop-label
decreases-loop-label l = length l.rest
