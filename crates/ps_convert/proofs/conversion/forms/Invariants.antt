-- The forms that are left, and their number.
use Rattle.std.proofs.Common.{◌≡◌, ◌+◌, ◌++◌, drop, length}
use Rattle.ps_convert.specs.Kernels.{forms_from}
use Rattle.ps_convert.proofs.conversion.forms.Given as goal

abbrev pub invariant-loop-q : goal.invariant-loop-q
invariant-loop-q l = (l.all ++ forms_from l.number (drop l.q-index l.qs) ≡ forms_from 0 l.qs) × (l.number + length (drop l.q-index l.qs) ≡ length l.qs)
