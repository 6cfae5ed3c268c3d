use Rattle.std.proofs.Common.{◌≡◌, ◌++◌, drop, map}
use Rattle.byte_store.specs.Contents.{lent_numbered}
use Rattle.ps_reify.specs.InsideWork.{flagged, all_added}
use Rattle.ps_reify.proofs.keep.add_blocks.Given as goal

abbrev pub invariant-loop-item : goal.invariant-loop-item
invariant-loop-item l = l.list ++ all_added (flagged l.walk) (map lent_numbered (drop l.item-index l.all)) ≡ all_added (flagged l.walk) (map lent_numbered l.all)
