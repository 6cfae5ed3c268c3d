use Rattle.ps_prims.proofs.CellsAreCounted.{gained, undefined, wrong}
use Rattle.ps_prims.proofs.laws.cells_are_counted.Goals as goal

pub returns-clause-gained : goal.returns-clause-gained
returns-clause-gained g c = gained

pub returns-clause-undefined : goal.returns-clause-undefined
returns-clause-undefined g c = undefined

pub returns-clause-wrong : goal.returns-clause-wrong
returns-clause-wrong g c = wrong
