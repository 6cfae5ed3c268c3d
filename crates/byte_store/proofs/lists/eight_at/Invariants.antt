-- The bytes so far are set, and stand in the word.
use Rattle.std.proofs.Common.{◌≡◌, take, length, Some}
use Rattle.byte_store.specs.Operations.{all_set}
use Rattle.byte_store.proofs.lists.eight_at.Given as goal

abbrev pub invariant-loop-i : goal.invariant-loop-i
invariant-loop-i l = (all_set (take l.i l.rest) ≡ Some (take l.i l.word)) × (length l.word ≡ 8)
