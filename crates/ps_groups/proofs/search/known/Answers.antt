use Rattle.ps_groups.specs.declared.search.Mark.TheVariants.{New}
use Rattle.ps_groups.proofs.ListsByPlace.{none_entry}
use Rattle.ps_groups.proofs.search.known.Goals as goal

pub returns-in-None : goal.returns-in-None
returns-in-None c = none_entry c.args.search.now.marks c.args.node New c.in-None.ensures.value
