use Rattle.ps_typing.proofs.CasesAreUnfolded.{cases_are_unfolded}
use Rattle.ps_typing.proofs.laws.cases_are_unfolded.Goals as goal

pub returns : goal.returns
returns c = cases_are_unfolded
