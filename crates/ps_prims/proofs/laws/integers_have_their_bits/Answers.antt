use Rattle.ps_prims.proofs.BitsAreDigits.{make, tell, have}
use Rattle.ps_prims.proofs.laws.integers_have_their_bits.Goals as goal

pub returns-clause-made : goal.returns-clause-made
returns-clause-made c = make

pub returns-clause-told : goal.returns-clause-told
returns-clause-told c = tell

pub returns-clause-had : goal.returns-clause-had
returns-clause-had c = have
