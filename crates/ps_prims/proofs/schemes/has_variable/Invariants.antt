-- No sort so far has the type variable.
use Rattle.std.proofs.Common.{◌≡◌, drop}
use Rattle.ps_prims.specs.Schemes.{has_variable}
use Rattle.ps_prims.proofs.schemes.has_variable.Given as goal

abbrev pub invariant-loop-sort : goal.invariant-loop-sort
invariant-loop-sort l = has_variable l.sorts ≡ has_variable (drop l.sort-index l.sorts)
