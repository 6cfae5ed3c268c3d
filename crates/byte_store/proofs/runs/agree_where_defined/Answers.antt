use Rattle.byte_store.proofs.FollowingAgrees.{where_defined}
use Rattle.byte_store.proofs.runs.agree_where_defined.Goals as goal

pub returns : goal.returns
returns c = where_defined
