-- The lambdas that are left, and the number of their parameters.
use Rattle.std.proofs.Common.{◌≡◌, ◌+◌, ◌++◌, drop, map, true}
use Rattle.ps_plain.specs.Valid.{all_true}
use Rattle.ps_convert.specs.Inside.{procedure_within, parameters_in}
use Rattle.ps_convert.specs.Kernels.{lambdas_from}
use Rattle.ps_convert.proofs.conversion.lambdas.Given as goal

abbrev pub invariant-loop-q : goal.invariant-loop-q
invariant-loop-q l =
    (l.all ++ lambdas_from l.first (drop l.q-index l.qs) ≡ lambdas_from 0 l.qs) × (l.first + parameters_in (drop l.q-index l.qs) ≡ parameters_in l.qs) × (all_true (map procedure_within (drop l.q-index l.qs)) ≡ true)
