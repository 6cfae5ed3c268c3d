use Rattle.ps_typing.proofs.DataHasOneType.{one_type}
use Rattle.ps_typing.proofs.laws.data_has_one_type.Goals as goal

pub returns : goal.returns
returns c = one_type
