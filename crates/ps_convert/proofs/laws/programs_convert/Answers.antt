use Rattle.ps_convert.proofs.Users.{programs_convert}
use Rattle.ps_convert.proofs.laws.programs_convert.Goals as goal

pub returns : goal.returns
returns c = programs_convert
