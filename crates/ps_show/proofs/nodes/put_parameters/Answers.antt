use Rattle.std.proofs.Common.{refl}
use Rattle.ps_show.specs.ShowText.{Parameters}
use Rattle.ps_show.proofs.PagesAreJoined.{adds_then, adds_text}
use Rattle.ps_show.proofs.PartsHaveBrackets.{deep_part, enclosed_part}
use Rattle.ps_show.proofs.nodes.put_parameters.Goals as goal

pub returns-then-levels-eq0 : goal.returns-then-levels-eq0
returns-then-levels-eq0 c = adds_text _ _ _ _ (deep_part c.args.showing.now.kernel.now c.args.showing.now.names.now c.args.showing.now.locals.now c.args.levels (Parameters c.args.place c.args.parameters.now) refl c.if-levels-eq0.true) c.deepen.ensures

pub returns : goal.returns
returns c = adds_text _ _ _ _ (enclosed_part c.args.showing.now.kernel.now c.args.showing.now.names.now c.args.showing.now.locals.now c.args.levels (Parameters c.args.place c.args.parameters.now) refl c.if-levels-eq0.false) (search adds_then depth 8)
