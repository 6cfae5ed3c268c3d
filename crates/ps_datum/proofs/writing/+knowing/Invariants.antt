use Rattle.std.proofs.Common.{◌≡◌, drop, map}
use Rattle.ps_datum.specs.Writing.{all_known, is_known}
use Rattle.ps_datum.proofs.writing.+knowing.Given as goal

-- all are known where the rest are
abbrev pub invariant-knows_all-loop-item : goal.invariant-knows_all-loop-item
invariant-knows_all-loop-item l = all_known (map (is_known l.names) l.items) ≡ all_known (map (is_known l.names) (drop l.item-index l.items))
