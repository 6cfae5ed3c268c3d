-- The law is a lemma of the machine.
use Rattle.c_meaning.proofs.LargerBoundKeeps.{larger_bound}
use Rattle.c_meaning.proofs.laws.larger_bound_keeps.Goals as goal

pub returns : goal.returns
returns c = larger_bound
