use Rattle.std.proofs.Common.{◌≡◌, length}
use Rattle.ps_kernel.specs.Rules.{labels_in, differ}
use Rattle.ps_kernel.proofs.validity.branches.all_differ.Given as goal

-- all are as the rest is
abbrev pub invariant-loop-branch : goal.invariant-loop-branch
invariant-loop-branch l = differ (labels_in l.rest) ≡ differ (labels_in l.branches)

abbrev pub decreases-loop-branch : goal.decreases-loop-branch
decreases-loop-branch l = length l.rest
