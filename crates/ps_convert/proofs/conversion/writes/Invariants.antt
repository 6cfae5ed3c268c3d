-- The writes that are left.
use Rattle.std.proofs.Common.{◌≡◌, ◌++◌, drop, map, true}
use Rattle.ps_plain.specs.Valid.{all_true}
use Rattle.ps_convert.specs.Inside.{write_within}
use Rattle.ps_convert.specs.Kernels.{write_of}
use Rattle.ps_convert.proofs.conversion.writes.Given as goal

abbrev pub invariant-loop-w : goal.invariant-loop-w
invariant-loop-w l = (l.all ++ map (write_of l.first) (drop l.w-index l.ws) ≡ map (write_of l.first) l.ws) × (all_true (map (write_within l.count) (drop l.w-index l.ws)) ≡ true)
