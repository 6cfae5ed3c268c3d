use Rattle.ps_modules.proofs.OpenedStructuresStandBefore.{in_order}
use Rattle.ps_modules.proofs.laws.structures_stand_in_order.Goals as goal

pub returns : goal.returns
returns c = in_order
