use Rattle.std.proofs.Common.{◌≡◌, ◌≤◌, ℕ, length, take, None}
use Rattle.std.specs.Prelude.{slice_get}
use Rattle.ps_runs.specs.Effects.{value_in}
use Rattle.ps_static_tables.specs.InsideTables.{lambda_among}
use Rattle.ps_static_tables.proofs.tables.locals_of.Given as goal

abbrev pub invariant-loop-i : goal.invariant-loop-i
invariant-loop-i l = (l.i ≤ length l.entries) × ((x : ℕ) → lambda_among x (take l.i l.entries) (value_in (slice_get l.table.items x)) ≡ lambda_among x l.entries None)

abbrev pub decreases-loop-i : goal.decreases-loop-i
decreases-loop-i l = l.i
