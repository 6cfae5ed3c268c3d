use Rattle.ps_datum.specs.Writing.{escaped_byte}
use Rattle.ps_datum.proofs.TextsComeByParts.{adds_each}
use Rattle.ps_datum.proofs.writing.put_all_escaped.Goals as goal

pub loop-byte-preserved : goal.loop-byte-preserved
loop-byte-preserved c = λ t r h. c.loop-byte.invariant t r (adds_each escaped_byte c.loop-byte.byte-index c.args.bytes.now c.loop-byte-test.true c.put_escaped-so_far.ensures h)
