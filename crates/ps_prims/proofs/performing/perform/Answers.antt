use Rattle.ps_prims.proofs.PerformsTheRow.{performs}
use Rattle.ps_prims.proofs.performing.perform.Goals as goal

pub returns : goal.returns
returns g c = performs _ c.perform_group.result _ _ _ (rw (c.group_of.ensures.row c.args.kinds.now) c.perform_group.ensures.row) (rw c.group_of.ensures.need c.perform_group.ensures.memory)
