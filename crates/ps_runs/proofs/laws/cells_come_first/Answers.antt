use Rattle.ps_runs.proofs.CellsComeFirst.{come_first}
use Rattle.ps_runs.proofs.laws.cells_come_first.Goals as goal

pub returns : goal.returns
returns g c = come_first
