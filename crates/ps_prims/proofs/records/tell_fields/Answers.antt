use Rattle.std.proofs.Common.{sym, ◌∙◌}
use Rattle.std.specs.Prelude.{pos}
use Rattle.byte_store.specs.declared.pointer.Pointer.TheVariants.{At}
use Rattle.ps_prims.specs.Sorts.{first_order}
use Rattle.ps_prims.proofs.FieldsAreFilled.{seen_end, tells_on}
use Rattle.ps_prims.proofs.records.tell_fields.Goals as goal

pub loop-i-preserved : goal.loop-i-preserved
loop-i-preserved c =
    let on = tells_on first_order (At c.args.base (pos 0)) c.args.order.now c.args.args.now c.loop-i.i _ c.loop-i-test.true c.requires.lengths
    c.args.events.now c.loop-i.events c.push-in-loop-i.new.self _ c.field_event.result c.loop-i.invariant.before c.loop-i.invariant.rest c.in_ok-push-2.ensures.ok c.field_event.ensures in
    record { before = on.0; rest = on.1 }

pub returns : goal.returns
returns c = sym (seen_end first_order c.loop-i.events (At c.args.base (pos 0)) c.args.order.now c.args.args.now c.loop-i.i c.loop-i-test.false) ∙ c.loop-i.invariant.rest
