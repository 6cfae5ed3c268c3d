use Rattle.byte_store.proofs.AgreementComposes.{shallow_so_far_trans}
use Rattle.byte_store.proofs.runs.shallow_so_far_composes.Goals as goal

pub returns : goal.returns
returns c = shallow_so_far_trans
