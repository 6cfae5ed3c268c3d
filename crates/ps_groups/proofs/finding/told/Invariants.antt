use Rattle.std.proofs.Common.{◌≡◌, map, take}
use Rattle.ps_groups.specs.InsideSearch.{group_in}
use Rattle.ps_groups.proofs.finding.told.Given as goal

abbrev pub invariant-loop-mark : goal.invariant-loop-mark
invariant-loop-mark l = l.groups ≡ map group_in (take l.mark-index l.mark-items)
