use Rattle.std.proofs.Common.{◌≡◌, ◌+◌, ◌*◌, drop}
use Rattle.std.specs.Prelude.{map, nat_le}
use Rattle.ps_kernel.specs.Valid.{datum_depth, greatest}
use Rattle.ps_expansion.proofs.names.+depth.Given as goal

abbrev pub decreases-is_within : goal.decreases-is_within
decreases-is_within l = 2 * l.most

abbrev pub decreases-are_within : goal.decreases-are_within
decreases-are_within l = 2 * l.most + 1

abbrev pub invariant-are_within-loop-datum : goal.invariant-are_within-loop-datum
invariant-are_within-loop-datum l = nat_le (greatest (map datum_depth (drop l.datum-index l.members))) l.most ≡ nat_le (greatest (map datum_depth l.members)) l.most
