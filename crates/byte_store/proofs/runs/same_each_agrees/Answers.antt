use Rattle.byte_store.proofs.AgreementComposes.{same_agrees}
use Rattle.byte_store.proofs.runs.same_each_agrees.Goals as goal

pub returns : goal.returns
returns c = same_agrees
