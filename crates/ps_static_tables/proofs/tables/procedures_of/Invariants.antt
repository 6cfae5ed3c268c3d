use Rattle.std.proofs.Common.{◌≡◌, ◌≤◌, ℕ, length, take, None}
use Rattle.std.specs.Prelude.{slice_get}
use Rattle.ps_runs.specs.Effects.{value_in}
use Rattle.ps_static_tables.specs.InsideTables.{defined_among}
use Rattle.ps_static_tables.proofs.tables.procedures_of.Given as goal

abbrev pub invariant-loop-i : goal.invariant-loop-i
invariant-loop-i l = (l.i ≤ length l.forms) × ((g : ℕ) → defined_among g (take l.i l.forms) (value_in (slice_get l.table.items g)) ≡ defined_among g l.forms None)

abbrev pub decreases-loop-i : goal.decreases-loop-i
decreases-loop-i l = l.i
