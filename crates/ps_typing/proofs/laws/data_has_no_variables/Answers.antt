use Rattle.ps_typing.proofs.DataHasOneType.{no_variables}
use Rattle.ps_typing.proofs.laws.data_has_no_variables.Goals as goal

pub returns : goal.returns
returns c = no_variables
