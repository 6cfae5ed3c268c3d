use Rattle.byte_store.proofs.FollowingAgrees.{following_shallow}
use Rattle.byte_store.proofs.runs.following_gives_shallow.Goals as goal

pub returns : goal.returns
returns c = following_shallow
