use Rattle.ps_modules.proofs.WalksEndOneWay.{one_end}
use Rattle.ps_modules.proofs.laws.walk_has_one_end.Goals as goal

pub returns : goal.returns
returns c = one_end
