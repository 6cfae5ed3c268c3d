use Rattle.std.proofs.Common.{◌≡◌, drop, map}
use Rattle.std.specs.List.{list_all}
use Rattle.ps_derived.specs.Seen.{seen_case_clause}
use Rattle.ps_bodies.specs.Branches.{has_labels}
use Rattle.ps_bodies.proofs.kinds.have_labels.Given as goal

-- all have data where the rest have
abbrev pub invariant-loop-clause : goal.invariant-loop-clause
invariant-loop-clause l = list_all has_labels (map seen_case_clause (drop l.clause-index l.clauses))
    ≡ list_all has_labels (map seen_case_clause l.clauses)
