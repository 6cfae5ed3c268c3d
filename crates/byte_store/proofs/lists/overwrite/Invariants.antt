-- The items so far stand in their places, and all else is as it was.
use Rattle.std.proofs.Common.{◌≡◌, map, Some}
use Rattle.std.proofs.Math.Seq.{paste}
use Rattle.byte_store.proofs.lists.overwrite.Given as goal

abbrev pub invariant-loop-i : goal.invariant-loop-i
invariant-loop-i g l = l.items ≡ paste l.fn.items l.start (map Some l.new) l.i
