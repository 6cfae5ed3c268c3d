use Rattle.ps_prims.proofs.RecordsAreTheRows.{always_filled}
use Rattle.ps_prims.proofs.records.make_granted.Goals as goal

pub returns-in-Err-fill : goal.returns-in-Err-fill
returns-in-Err-fill g c =
    always_filled c.args.k c.args.count c.args.order.now c.args.args.now c.args.store.now c.args.world.now c.allocate.new.store c.allocate.new.world c.in-Ok.p
    c.requires.size c.requires.granted c.in-Ok.ensures c.in-Err-fill.op c.requires.maker c.in-Err-fill.ensures
