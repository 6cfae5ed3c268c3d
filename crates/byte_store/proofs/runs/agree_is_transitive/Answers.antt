use Rattle.byte_store.proofs.AgreementComposes.{agree_trans}
use Rattle.byte_store.proofs.runs.agree_is_transitive.Goals as goal

pub returns : goal.returns
returns c = agree_trans
