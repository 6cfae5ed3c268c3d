use Rattle.ps_meaning.proofs.RunOnlyIsTold.{run_only_at_its_place}
use Rattle.ps_meaning.proofs.laws.run_only_at_its_place.Goals as goal

pub returns : goal.returns
returns c = run_only_at_its_place
