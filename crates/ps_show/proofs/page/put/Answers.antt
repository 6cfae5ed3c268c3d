use Rattle.std.proofs.Common.{arith}
use Rattle.ps_show.proofs.PagesAreJoined.{adds_byte, adds_no_byte}
use Rattle.ps_show.proofs.page.put.Goals as goal

pub loop-byte-preserved : goal.loop-byte-preserved
loop-byte-preserved c = λ t h. c.loop-byte.invariant t (adds_byte _ _ t c.loop-byte.byte-index c.args.bytes.now c.loop-byte-test.true c.put_byte.ensures h)

pub returns : goal.returns
returns c = c.loop-byte.invariant _ (adds_no_byte _ c.loop-byte.byte-index c.args.bytes.now (omega arith))
