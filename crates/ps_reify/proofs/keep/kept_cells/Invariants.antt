use Rattle.std.proofs.Common.{◌≡◌, ◌++◌, drop}
use Rattle.ps_survive.specs.Kept.{kept_cells}
use Rattle.ps_reify.proofs.keep.kept_cells.Given as goal

abbrev pub invariant-loop-cell : goal.invariant-loop-cell
invariant-loop-cell l = l.all ++ kept_cells (drop l.cell-index l.cells) ≡ kept_cells l.cells
