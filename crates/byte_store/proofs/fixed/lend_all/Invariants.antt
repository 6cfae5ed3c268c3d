-- The blocks so far are there.
use Rattle.std.proofs.Common.{◌≡◌, map}
use Rattle.std.specs.Map.Iter.{deref_pair}
use Rattle.byte_store.specs.Contents.{lent_numbered}
use Rattle.byte_store.specs.Inside.{seen_numbered}
use Rattle.byte_store.proofs.fixed.lend_all.Given as goal

abbrev pub invariant-loop-number : goal.invariant-loop-number
invariant-loop-number g l = map lent_numbered l.blocks.items ≡ map seen_numbered (map deref_pair l.yielded)
