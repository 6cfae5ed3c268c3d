use Rattle.std.proofs.Common.{◌≡◌, drop}
use Rattle.ps_kernel.specs.Rules.{is_among}
use Rattle.ps_kernel.proofs.validity.branches.stands_among.Given as goal

-- it is one of all where it is one of the rest
abbrev pub invariant-loop-other : goal.invariant-loop-other
invariant-loop-other l = is_among l.label (drop l.other-index l.labels) ≡ is_among l.label l.labels
