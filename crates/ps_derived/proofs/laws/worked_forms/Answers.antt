use Rattle.ps_derived.proofs.SmallForms.{all_worked}
use Rattle.ps_derived.proofs.laws.worked_forms.Goals as goal

pub returns : goal.returns
returns c = all_worked
