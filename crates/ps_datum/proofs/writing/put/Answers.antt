use Rattle.ps_datum.proofs.TextsComeByParts.{adds_byte}
use Rattle.ps_datum.proofs.writing.put.Goals as goal

pub loop-byte-preserved : goal.loop-byte-preserved
loop-byte-preserved c = λ t r h. c.loop-byte.invariant t r (adds_byte c.loop-byte.byte-index c.args.bytes.now c.loop-byte-test.true c.put_byte-so_far.ensures h)
