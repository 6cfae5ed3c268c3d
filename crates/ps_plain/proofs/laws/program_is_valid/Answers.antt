use Rattle.ps_plain.proofs.Programs.{valid_and_small}
use Rattle.ps_plain.proofs.laws.program_is_valid.Goals as goal

pub returns : goal.returns
returns c = valid_and_small
