use Rattle.ps_meaning.proofs.CasesUnfold.{cases_do}
use Rattle.ps_meaning.proofs.laws.cases_do_what_they_unfold_to.Goals as goal

pub returns : goal.returns
returns c = cases_do
