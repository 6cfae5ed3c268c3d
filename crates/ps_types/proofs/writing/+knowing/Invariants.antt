use Rattle.std.proofs.Common.{◌≡◌, drop, map}
use Rattle.ps_types.specs.Writing.{all_known, is_known}
use Rattle.ps_types.proofs.writing.+knowing.Given as goal

-- all are known where the rest are
abbrev pub invariant-knows_all-loop-t : goal.invariant-knows_all-loop-t
invariant-knows_all-loop-t l = all_known (map (is_known l.kinds l.names) l.types) ≡ all_known (map (is_known l.kinds l.names) (drop l.t-index l.types))
