use Rattle.ps_typing.proofs.RowsByHand.{local_has_one_type}
use Rattle.ps_typing.proofs.laws.local_has_one_type.Goals as goal

pub returns : goal.returns
returns c = local_has_one_type
