use Rattle.std.specs.Int.{w128}
use Rattle.std.proofs.lemmas.Int.{to_z-of_z}
use Rattle.byte_store.proofs.PlaceByPlace.{one_overwritten}
use Rattle.byte_store.proofs.lists.put_at.Goals as goal

pub returns : goal.returns
returns g c = rw (← to_z-of_z w128 c.args.place c.ranges.place, c.in-Some.ensures) (one_overwritten _ _ _ c.if-items-i.false)
