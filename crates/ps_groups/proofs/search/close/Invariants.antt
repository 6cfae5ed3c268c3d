use Rattle.std.proofs.Common.{length, ◌≤◌, ◌≡◌}
use Rattle.ps_groups.specs.InsideSearch.{Closed}
use Rattle.ps_groups.proofs.search.close.Given as goal

abbrev pub invariant-loop-search : goal.invariant-loop-search
invariant-loop-search l = Closed l.group l.fn.search l.search × (l.place ≤ length l.search.stack) × (l.group ≡ length l.fn.search.order)

abbrev pub decreases-loop-search : goal.decreases-loop-search
decreases-loop-search l = length l.search.stack
