use Rattle.ps_typing.proofs.DataIsTypedByCells.{by_cells}
use Rattle.ps_typing.proofs.laws.data_is_typed_by_cells.Goals as goal

pub returns : goal.returns
returns c = by_cells
