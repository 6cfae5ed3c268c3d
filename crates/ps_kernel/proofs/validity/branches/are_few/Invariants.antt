use Rattle.std.proofs.Common.{◌≡◌, drop, length}
use Rattle.std.specs.Prelude.{nat_le}
use Rattle.ps_kernel.specs.Most.{most_labels}
use Rattle.ps_kernel.specs.Rules.{labels_in}
use Rattle.ps_kernel.proofs.validity.branches.are_few.Given as goal

-- all are few enough where there is room left for the rest
abbrev pub invariant-loop-branch : goal.invariant-loop-branch
invariant-loop-branch l = nat_le (length (labels_in (drop l.branch-index l.branches))) l.left ≡ nat_le (length (labels_in l.branches)) most_labels
