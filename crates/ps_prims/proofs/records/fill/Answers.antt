use Rattle.std.proofs.Common.{◌∙◌}
use Rattle.ps_prims.specs.Sorts.{first_order}
use Rattle.ps_prims.proofs.FieldsAreFilled.{puts_end, puts_on, puts_stop}
use Rattle.ps_prims.proofs.records.fill.Goals as goal

pub returns-in-Err : goal.returns-in-Err
returns-in-Err g c = c.loop-i.invariant ∙ puts_stop first_order c.args.p c.args.order.now c.args.args.now c.loop-i.i _ c.loop-i-test.true c.requires.lengths c.loop-i.store c.in-Err.op c.in-Err.ensures

pub returns : goal.returns
returns g c = c.loop-i.invariant ∙ puts_end c.loop-i.store c.args.p c.args.order.now c.args.args.now c.loop-i.i c.loop-i-test.false

pub loop-i-preserved : goal.loop-i-preserved
loop-i-preserved g c = c.loop-i.invariant ∙ puts_on first_order c.args.p c.args.order.now c.args.args.now c.loop-i.i _ c.loop-i-test.true c.requires.lengths c.loop-i.store c.put_field.new.store c.in_default.ensures
