use Rattle.byte_store.proofs.RefiningFollows.{refining_follows as follows}
use Rattle.byte_store.proofs.refining.refining_follows.Goals as goal

pub returns : goal.returns
returns g c = follows _ _ _ _ _ _ g.R.Refinement.refines
