use Rattle.ps_show.proofs.PagesAreJoined.{adds_deep_first, adds_deeper}
use Rattle.ps_show.proofs.page.deepen.Goals as goal

pub returns-in-None : goal.returns-in-None
returns-in-None c = adds_deep_first c.args.page.now c.args.place c.in-None.is

pub returns-in-Some : goal.returns-in-Some
returns-in-Some c = rw c.deeper.ensures (adds_deeper c.args.page.now c.args.place c.in-Some.fault c.in-Some.is)
