use Rattle.std.proofs.Common.{◌≡◌, drop}
use Rattle.std.specs.List.{list_all}
use Rattle.ps_kernel.specs.Rules.{is_label}
use Rattle.ps_kernel.proofs.validity.branches.are_labels.Given as goal

-- all are right where the rest are
abbrev pub invariant-loop-label : goal.invariant-loop-label
invariant-loop-label l = list_all (is_label l.kind) (drop l.label-index l.labels) ≡ list_all (is_label l.kind) l.labels
