use Rattle.std.proofs.Common.{◌≡◌, map, take}
use Rattle.std.specs.Prelude.{reverse}
use Rattle.ps_pattern.proofs.RowsLoseColumns.{from}
use Rattle.ps_pattern.proofs.columns.columns_of.Given as goal

abbrev pub invariant-loop-v : goal.invariant-loop-v
invariant-loop-v l = (map (take l.v) l.rows.items ≡ map (take l.v) l.fn.rows.items) × (reverse l.columns.items ≡ from l.v l.width l.fn.rows.items)
