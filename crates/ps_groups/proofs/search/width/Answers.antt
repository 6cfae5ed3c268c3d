use Rattle.std.proofs.Common.{[], ap, length}
use Rattle.ps_groups.proofs.ListsByPlace.{none_entry}
use Rattle.ps_groups.proofs.search.width.Goals as goal

pub returns-in-None : goal.returns-in-None
returns-in-None c = ap length (none_entry c.args.rows.now c.args.node [] c.in-None.ensures.value)
