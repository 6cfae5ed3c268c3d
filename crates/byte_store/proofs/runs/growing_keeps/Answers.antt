use Rattle.byte_store.proofs.FollowingAgrees.{growing_keeps as growing_keeps_lem}
use Rattle.byte_store.proofs.runs.growing_keeps.Goals as goal

pub returns : goal.returns
returns c = growing_keeps_lem
