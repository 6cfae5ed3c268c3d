use Rattle.std.proofs.Common.{◌≡◌, drop}
use Rattle.std.specs.List.{list_all}
use Rattle.ps_kernel.specs.Rules.{is_branch}
use Rattle.ps_kernel.proofs.validity.branches.have_labels.Given as goal

-- all are right where the rest are
abbrev pub invariant-loop-branch : goal.invariant-loop-branch
invariant-loop-branch l = list_all (is_branch l.kind) (drop l.branch-index l.branches) ≡ list_all (is_branch l.kind) l.branches
