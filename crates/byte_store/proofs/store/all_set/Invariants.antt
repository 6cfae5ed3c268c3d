-- The items so far are there, each set.
use Rattle.std.proofs.Common.{◌≡◌, map, take, Some}
use Rattle.byte_store.proofs.store.all_set.Given as goal

abbrev pub invariant-loop-item : goal.invariant-loop-item
invariant-loop-item g l = l.set.items ≡ map Some (take l.item-index l.items)
