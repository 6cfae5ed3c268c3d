use Rattle.ps_runs.proofs.EndsAreUnseen.{ends_unseen}
use Rattle.ps_runs.proofs.laws.ends_are_unseen.Goals as goal

pub returns : goal.returns
returns g c = λ env after p s. ends_unseen env after p s
