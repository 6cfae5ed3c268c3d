use Rattle.std.proofs.Common.{◌+◌, ◌<◌, length, sym, arith}
use Rattle.byte_store.proofs.PlaceByPlace.{one_more_set}
use Rattle.byte_store.proofs.lists.overwrite.Goals as goal

pub loop-i-preserved : goal.loop-i-preserved
loop-i-preserved g c =
    let inside : c.in-Some.start + c.loop-i.i < length c.args.items.now = omega (arith, c.if-items-start.false, c.if-items-start-2.false, c.loop-i-test.true) in
    rw c.loop-i.invariant (one_more_set _ _ _ _ _ (sym c.index-new-i.is) inside c.loop-i-test.true)
