use Rattle.ps_convert.proofs.Runs.{forms_do_nothing}
use Rattle.ps_convert.proofs.laws.forms_do_nothing.Goals as goal

pub returns : goal.returns
returns c = forms_do_nothing
