use Rattle.std.proofs.Common.{arith}
use Rattle.ps_show.proofs.LinesAreWritten.{adds_field, adds_no_field}
use Rattle.ps_show.proofs.kinds.put_fields.Goals as goal

pub loop-f-preserved : goal.loop-f-preserved
loop-f-preserved c = λ u h. c.loop-f.invariant u (adds_field _ _ u c.args.k c.loop-f.f c.args.fields.now c.index-fields-f.result c.loop-f-test.true c.index-fields-f.is c.put_field_of.ensures h)

pub returns : goal.returns
returns c = c.loop-f.invariant _ (adds_no_field _ c.args.k c.loop-f.f c.args.fields.now (omega arith))
