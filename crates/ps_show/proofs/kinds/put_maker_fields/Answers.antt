use Rattle.std.proofs.Common.{arith}
use Rattle.ps_show.specs.Words.{field_word}
use Rattle.ps_show.proofs.PagesAreJoined.{adds_behind, adds_behind_none, member_is}
use Rattle.ps_show.proofs.kinds.put_maker_fields.Goals as goal

pub loop-field-preserved : goal.loop-field-preserved
loop-field-preserved c = λ u h. c.loop-field.invariant u (adds_behind _ _ _ u (field_word c.args.k) c.loop-field.field-index c.args.fields.now _ c.loop-field-test.true (member_is c.args.fields.now c.loop-field.field-index _ c.loop-field-test.true) c.put.ensures c.put_field.ensures h)

pub returns : goal.returns
returns c = c.loop-field.invariant _ (adds_behind_none _ (field_word c.args.k) c.loop-field.field-index c.args.fields.now (omega arith))
