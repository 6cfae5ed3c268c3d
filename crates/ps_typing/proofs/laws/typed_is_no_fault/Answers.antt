use Rattle.ps_typing.proofs.AnswersAreOne.{typed_is_no_fault}
use Rattle.ps_typing.proofs.laws.typed_is_no_fault.Goals as goal

pub returns : goal.returns
returns c = typed_is_no_fault
