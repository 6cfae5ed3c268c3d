use Rattle.std.proofs.Common.{◌≡◌, [], drop, map}
use Rattle.ps_derived.specs.Seen.{seen_case_clause}
use Rattle.ps_bodies.specs.Branches.{code_in, labels_of_all}
use Rattle.ps_bodies.specs.InsideBranches.{codes_behind}
use Rattle.ps_bodies.proofs.kinds.are_labels.Given as goal

-- all end as the rest behind what was added
abbrev pub invariant-loop-clause : goal.invariant-loop-clause
invariant-loop-clause l =
    codes_behind (code_in l.kind) (labels_of_all (map seen_case_clause (drop l.clause-index l.clauses))) l.codes
    ≡ codes_behind (code_in l.kind) (labels_of_all (map seen_case_clause l.clauses)) []
