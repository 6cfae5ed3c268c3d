use Rattle.std.proofs.Common.{◌≡◌, ◌+◌, ◌-◌, ℕ, length}
use Rattle.std.specs.Prelude.{slice_get}
use Rattle.ps_runs.specs.Effects.{value_in}
use Rattle.ps_static_tables.proofs.tables.make_room.Given as goal

abbrev pub invariant-loop-table : goal.invariant-loop-table
invariant-loop-table l = (m : ℕ) → value_in (slice_get l.table.items m) ≡ value_in (slice_get l.initial.table.items m)

abbrev pub decreases-loop-table : goal.decreases-loop-table
decreases-loop-table l = l.n + 1 - length l.table.items
