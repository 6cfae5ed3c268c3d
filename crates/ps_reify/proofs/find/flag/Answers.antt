use Rattle.std.proofs.Common.{false}
use Rattle.ps_reify.proofs.ListsGoOn.{none_entry}
use Rattle.ps_reify.proofs.find.flag.Goals as goal

pub returns-in-None : goal.returns-in-None
returns-in-None c = none_entry c.args.flags.now c.args.number false c.in-None.ensures.value
