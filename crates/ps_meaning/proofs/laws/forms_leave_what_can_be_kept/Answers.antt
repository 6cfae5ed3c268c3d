use Rattle.ps_meaning.proofs.FormsLeaveValues.{forms_leave}
use Rattle.ps_meaning.proofs.laws.forms_leave_what_can_be_kept.Goals as goal

pub returns : goal.returns
returns c = forms_leave
