use Rattle.std.proofs.Common.{length}
use Rattle.ps_groups.specs.InsideSearch.{Contracting}
use Rattle.ps_groups.proofs.search.contract.Given as goal

abbrev pub invariant-loop-start : goal.invariant-loop-start
invariant-loop-start l = Contracting l.place l.fn.search l.search

abbrev pub decreases-loop-start : goal.decreases-loop-start
decreases-loop-start l = length l.search.starts
