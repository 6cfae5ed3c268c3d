use Rattle.ps_show.specs.ShowText.{constant_text}
use Rattle.ps_show.proofs.PagesAreJoined.{adds_then, adds_text}
use Rattle.ps_show.proofs.PartsHaveBrackets.{quoted_part}
use Rattle.ps_show.proofs.nodes.put_constant.Goals as goal

pub returns-in-Quoted : goal.returns-in-Quoted
unfolding constant_text
returns-in-Quoted c = rw c.in-Quoted.is (adds_then _ _ _ _ _ c.put-in-Quoted.ensures (adds_text _ _ _ _ (quoted_part c.args.showing.now.kernel.now c.args.showing.now.names.now c.args.showing.now.locals.now c.args.levels c.args.place c.in-Quoted.number) c.put_literal.ensures))
