use Rattle.ps_prims.proofs.RecordsAreTheRows.{modifier_changes, modifier_wrong}
use Rattle.ps_prims.proofs.records.perform_modifier.Goals as goal

pub returns-in-Some : goal.returns-in-Some
returns-in-Some g c =
    modifier_changes c.args.kinds.now c.args.args.now c.args.store.now c.change_field.new.store c.args.stage c.args.events.now c.change_field.new.events c.change_field.result c.args.k c.args.f c.in-Some.p c.in-Some.x
    c.sort_of_field.result c.sort_of_field.ensures c.in-Some.ensures.0 c.in-Some.ensures.1 c.change_field.ensures

pub returns-in-None : goal.returns-in-None
returns-in-None g c = modifier_wrong c.args.kinds.now c.args.args.now c.args.store.now c.args.stage c.args.events.now c.args.k c.args.f c.sort_of_field.result c.sort_of_field.ensures c.in-None.ensures
