use Rattle.ps_typing.proofs.RowsByHand.{identity_has_two_types}
use Rattle.ps_typing.proofs.laws.identity_has_two_types.Goals as goal

pub returns : goal.returns
returns c = identity_has_two_types
