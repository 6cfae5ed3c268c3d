use Rattle.byte_store.proofs.RefiningIsShallow.{refining_shallow}
use Rattle.byte_store.proofs.refining.refining_is_shallow.Goals as goal

pub returns : goal.returns
returns g c = refining_shallow _ _ _ _ _ _ g.R.Refinement.refines
