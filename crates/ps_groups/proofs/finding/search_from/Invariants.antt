use Rattle.std.proofs.Common.{◌≡◌, ℕ, ◌≤◌}
use Rattle.ps_groups.specs.InsideSearch.{mark_at, IsSearch, size}
use Rattle.std.specs.Prelude.{None}
use Rattle.ps_groups.specs.declared.search.Mark.TheVariants.{New}
use Rattle.ps_groups.proofs.finding.search_from.Given as goal

abbrev pub invariant-loop-frame : goal.invariant-loop-frame
invariant-loop-frame l = IsSearch l.rows None l.search × ((e : ℕ) → e ≤ l.node → mark_at l.search.marks e ≡ New → ⊥)

abbrev pub decreases-loop-frame : goal.decreases-loop-frame
decreases-loop-frame l = size l.rows l.search
