-- The copies so far are there.
use Rattle.std.proofs.Common.{◌≡◌, take}
use Rattle.ps_prims.proofs.copies.+copying.Given as goal

abbrev pub invariant-copies_of-loop-t : goal.invariant-copies_of-loop-t
invariant-copies_of-loop-t l = l.copies ≡ take l.t-index l.types
