-- The label does not stand before the place that is looked at.
use Rattle.std.proofs.Common.{◌≡◌, drop}
use Rattle.c_meaning.specs.Machine.{after_label}
use Rattle.c_meaning.proofs.perform.behind_label.Given as goal

abbrev pub invariant-loop-i : goal.invariant-loop-i
invariant-loop-i l = after_label l.label (drop l.i l.statements) ≡ after_label l.label l.statements
