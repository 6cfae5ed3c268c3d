-- The items so far are set, and copied.
use Rattle.std.proofs.Common.{◌≡◌, take, Some}
use Rattle.byte_store.specs.Operations.{all_set}
use Rattle.byte_store.proofs.lists.copied_front.Given as goal

abbrev pub invariant-loop-item : goal.invariant-loop-item
invariant-loop-item l = all_set (take l.item-index l.item-items) ≡ Some l.copy
