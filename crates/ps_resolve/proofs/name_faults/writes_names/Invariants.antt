use Rattle.std.proofs.Common.{◌≡◌, map, drop}
use Rattle.ps_plain.specs.Faults.{flaws}
use Rattle.ps_resolve.specs.InsideNameTables.{scope_of, writes_names}
use Rattle.ps_resolve.proofs.name_faults.writes_names.Given as goal

-- the search of what is left gives the same
abbrev pub invariant-loop-datum : goal.invariant-loop-datum
invariant-loop-datum l = writes_names (scope_of l.scope) (map (flaws l.names) (drop l.datum-index l.items)) ≡ writes_names (scope_of l.scope) (map (flaws l.names) l.items)
