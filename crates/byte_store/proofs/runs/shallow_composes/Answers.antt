use Rattle.byte_store.proofs.AgreementComposes.{shallow_trans}
use Rattle.byte_store.proofs.runs.shallow_composes.Goals as goal

pub returns : goal.returns
returns c = shallow_trans
