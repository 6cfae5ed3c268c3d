use Rattle.ps_survive.proofs.SurvivorsAreOne.{one_answer}
use Rattle.ps_survive.proofs.laws.one_answer.Goals as goal

pub returns : goal.returns
returns c = one_answer
