-- The operands that are left.
use Rattle.std.proofs.Common.{◌≡◌, ◌++◌, drop, map, true}
use Rattle.ps_plain.specs.Valid.{all_true}
use Rattle.ps_convert.specs.Inside.{within}
use Rattle.ps_convert.specs.Kernels.{expr_of}
use Rattle.ps_convert.proofs.conversion.+convert.Given as goal

abbrev pub invariant-exprs-loop-e : goal.invariant-exprs-loop-e
invariant-exprs-loop-e l = (l.all ++ map (expr_of l.first) (drop l.e-index l.es) ≡ map (expr_of l.first) l.es) × (all_true (map (within l.count) (drop l.e-index l.es)) ≡ true)
