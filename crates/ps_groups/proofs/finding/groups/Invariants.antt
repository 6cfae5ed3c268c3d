use Rattle.ps_groups.specs.InsideSearch.{IsDoneBelow}
use Rattle.ps_groups.proofs.finding.groups.Given as goal

abbrev pub invariant-loop-node : goal.invariant-loop-node
invariant-loop-node l = IsDoneBelow l.rows l.node l.search
