use Rattle.std.proofs.Common.{◌≡◌, drop}
use Rattle.ps_kernel.specs.Rules.{is_among}
use Rattle.ps_static_eval.proofs.turns.is_among.Given as goal

abbrev pub invariant-loop-other : goal.invariant-loop-other
invariant-loop-other l = is_among l.label (drop l.other-index l.labels) ≡ is_among l.label l.labels
