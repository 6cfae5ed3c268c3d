use Rattle.std.proofs.Common.{◌≡◌}
use Rattle.ps_scope.specs.Environments.{word, defined}
use Rattle.ps_scope.specs.InsideTables.{trail_at, trails}
use Rattle.ps_scope.proofs.table.find_along.Given as goal

abbrev pub invariant-rows : goal.invariant-rows
invariant-rows l = defined (trail_at (trails l.rows) l.mark) l.owner (word l.name l.stamps) ≡ defined (trail_at (trails l.rows) l.below) l.owner (word l.name l.stamps)

abbrev pub decreases-rows : goal.decreases-rows
decreases-rows l = l.below
