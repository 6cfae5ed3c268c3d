use Rattle.std.proofs.Common.{arith}
use Rattle.ps_show.proofs.LinesAreWritten.{adds_kind, adds_no_kind}
use Rattle.ps_show.proofs.kinds.put_kinds.Goals as goal

pub loop-k-preserved : goal.loop-k-preserved
loop-k-preserved c = λ u h. c.loop-k.invariant u (adds_kind _ _ _ u c.loop-k.k c.args.kinds.now c.index-kinds-k.result c.loop-k-test.true c.index-kinds-k.is c.put_kind.ensures c.put.ensures h)

pub returns : goal.returns
returns c = c.loop-k.invariant _ (adds_no_kind _ c.loop-k.k c.args.kinds.now (omega arith))
