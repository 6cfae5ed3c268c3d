use Rattle.ps_meaning.proofs.CellsOnlyStopRuns.{more_cells_keep_forms}
use Rattle.ps_meaning.proofs.laws.more_cells_keep_forms.Goals as goal

pub returns : goal.returns
returns c = more_cells_keep_forms
