use Rattle.ps_typing.proofs.AnswersAreOne.{one_fault}
use Rattle.ps_typing.proofs.laws.one_fault.Goals as goal

pub returns : goal.returns
returns c = one_fault
