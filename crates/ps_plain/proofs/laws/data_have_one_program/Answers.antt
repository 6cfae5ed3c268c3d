use Rattle.ps_plain.proofs.Programs.{one_program}
use Rattle.ps_plain.proofs.laws.data_have_one_program.Goals as goal

pub returns : goal.returns
returns c = one_program
