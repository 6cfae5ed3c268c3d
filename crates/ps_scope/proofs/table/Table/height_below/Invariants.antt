use Rattle.ps_scope.specs.Environments.{word}
use Rattle.ps_scope.proofs.Chains.{Walks}
use Rattle.ps_scope.proofs.table.Table.height_below.Given as goal

abbrev pub invariant-chain : goal.invariant-chain
invariant-chain l = Walks l.self.live l.owner (word l.name l.stamps) l.below l.height

abbrev pub decreases-chain : goal.decreases-chain
decreases-chain l = l.height
