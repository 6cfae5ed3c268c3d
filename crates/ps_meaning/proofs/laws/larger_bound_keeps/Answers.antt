use Rattle.ps_meaning.proofs.LargerBoundsKeep.{larger_bound}
use Rattle.ps_meaning.proofs.laws.larger_bound_keeps.Goals as goal

pub returns : goal.returns
returns c = larger_bound
