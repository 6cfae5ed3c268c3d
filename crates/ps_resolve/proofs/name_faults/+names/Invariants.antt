use Rattle.std.proofs.Common.{◌≡◌, map, drop}
use Rattle.ps_plain.specs.Faults.{flaws, exprs_names}
use Rattle.ps_resolve.specs.InsideNameTables.{scope_of}
use Rattle.ps_resolve.proofs.name_faults.+names.Given as goal

-- the search of what is left gives the same
abbrev pub invariant-exprs_names-loop-datum : goal.invariant-exprs_names-loop-datum
invariant-exprs_names-loop-datum l = exprs_names (scope_of l.scope) (map (flaws l.names) (drop l.datum-index l.items)) ≡ exprs_names (scope_of l.scope) (map (flaws l.names) l.items)
