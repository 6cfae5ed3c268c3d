use Rattle.std.proofs.Common.{◌≡◌, ◌++◌, drop, map}
use Rattle.ps_derived.specs.Seen.{seen_case_clause}
use Rattle.ps_plans.specs.Seen.{seen_choices}
use Rattle.ps_conditions.specs.Conditions.{choices}
use Rattle.ps_conditions.proofs.case_clauses.choices.Given as goal

-- the clauses from here on stand behind those that were made
abbrev pub invariant-loop-clause : goal.invariant-loop-clause
invariant-loop-clause l = seen_choices l.all.items ++ choices l.level l.at (map seen_case_clause (drop l.clause-index l.clauses))
    ≡ choices l.fn.level l.at (map seen_case_clause l.clauses)
