-- The variables so far are all assigned.
use Rattle.std.proofs.Common.{◌≡◌, drop}
use Rattle.std.specs.Prelude.{is_some}
use Rattle.c_meaning.specs.Machine.{values_of}
use Rattle.c_meaning.proofs.values.are_assigned.Given as goal

abbrev pub invariant-loop-number : goal.invariant-loop-number
invariant-loop-number l = is_some (values_of l.locals (drop l.number-index l.variables)) ≡ is_some (values_of l.locals l.variables)
