-- The bytes so far are set, and none is 0.
use Rattle.std.proofs.Common.{◌≡◌, drop}
use Rattle.byte_store.specs.Operations.{text_before_0}
use Rattle.byte_store.proofs.PlaceByPlace.{further}
use Rattle.byte_store.proofs.lists.length_before_0.Given as goal

abbrev pub invariant-loop-i : goal.invariant-loop-i
invariant-loop-i l = text_before_0 l.bytes ≡ further l.i (text_before_0 (drop l.i l.bytes))
