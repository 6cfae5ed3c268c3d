use Rattle.ps_meaning.proofs.CellsOnlyStopRuns.{cells_only_stop, more_cells_keep}
use Rattle.ps_meaning.proofs.laws.cells_only_stop.Goals as goal

pub returns : goal.returns
returns c = record { none = cells_only_stop; more = more_cells_keep }
