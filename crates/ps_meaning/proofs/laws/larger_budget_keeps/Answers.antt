use Rattle.ps_meaning.proofs.LargerBoundsKeep.{larger_budget}
use Rattle.ps_meaning.proofs.laws.larger_budget_keeps.Goals as goal

pub returns : goal.returns
returns c = larger_budget
