use Rattle.ps_prims.proofs.RowsActOnBits.{moved}
use Rattle.ps_prims.proofs.laws.bits_are_moved.Goals as goal

pub returns : goal.returns
returns c = moved
