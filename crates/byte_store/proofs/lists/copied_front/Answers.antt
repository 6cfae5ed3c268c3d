use Rattle.std.proofs.Common.{◌∙◌, ap, sym, Some}
use Rattle.byte_store.specs.Operations.{set}
use Rattle.byte_store.proofs.PlaceByPlace.{all_set_more, all_set_stops}
use Rattle.byte_store.proofs.lists.copied_front.Goals as goal

pub returns-in-None : goal.returns-in-None
returns-in-None c = ap set (all_set_stops _ _ c.loop-item-test.true c.in-None.is)

pub loop-item-preserved : goal.loop-item-preserved
loop-item-preserved c = all_set_more _ _ _ _ c.loop-item.invariant c.in-Some.is c.loop-item-test.true ∙ ap Some (sym c.in_ok-push-in-Some.ensures.ok)
