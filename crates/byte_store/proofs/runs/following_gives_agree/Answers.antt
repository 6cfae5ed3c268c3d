use Rattle.byte_store.proofs.FollowingAgrees.{following_agrees}
use Rattle.byte_store.proofs.runs.following_gives_agree.Goals as goal

pub returns : goal.returns
returns c = following_agrees
