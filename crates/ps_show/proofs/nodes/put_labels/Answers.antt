use Rattle.std.proofs.Common.{arith}
use Rattle.ps_show.specs.Words.{label_word}
use Rattle.ps_show.proofs.PagesAreJoined.{adds_spaced, adds_spaced_none, member_is}
use Rattle.ps_show.proofs.nodes.put_labels.Goals as goal

pub loop-i-preserved : goal.loop-i-preserved
loop-i-preserved c = λ u h.
    c.loop-i.invariant u (adds_spaced _ _ _ u (label_word c.args.kind) c.loop-i.i c.args.labels.now _ c.loop-i-test.true (member_is c.args.labels.now c.loop-i.i _ c.loop-i-test.true) c.put_space.ensures c.put_label.ensures h)

pub returns : goal.returns
returns c = c.loop-i.invariant _ (adds_spaced_none _ (label_word c.args.kind) c.loop-i.i c.args.labels.now (omega arith))
