use Rattle.std.proofs.Common.{arith}
use Rattle.ps_show.specs.Words.{local_word}
use Rattle.ps_show.proofs.PagesAreJoined.{adds_spaced, adds_spaced_none, member_is}
use Rattle.ps_show.proofs.nodes.put_locals.Goals as goal

pub loop-i-preserved : goal.loop-i-preserved
loop-i-preserved c = λ u h. c.loop-i.invariant u (adds_spaced _ _ _ u (local_word c.args.locals.now) c.loop-i.i c.args.numbers.now _ c.loop-i-test.true (member_is c.args.numbers.now c.loop-i.i _ c.loop-i-test.true) c.put_space.ensures c.put_local.ensures h)

pub returns : goal.returns
returns c = c.loop-i.invariant _ (adds_spaced_none _ (local_word c.args.locals.now) c.loop-i.i c.args.numbers.now (omega arith))
