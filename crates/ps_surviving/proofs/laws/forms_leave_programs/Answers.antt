use Rattle.ps_surviving.proofs.FormsLeaveEntries.{forms_leave_programs}
use Rattle.ps_surviving.proofs.laws.forms_leave_programs.Goals as goal

pub returns : goal.returns
returns c = forms_leave_programs
