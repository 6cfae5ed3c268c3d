use Rattle.ps_derived.specs.Forms.{counts}
use Rattle.ps_derived.specs.Clauses.{case_clause_at, begins_with}
use Rattle.ps_derived.specs.Seen.{seen_case_clause}
use Rattle.ps_derived.proofs.ClausesInTurn.{ClausesSo}
use Rattle.ps_derived.proofs.clauses.case_clauses.Given as goal

abbrev pub invariant-loop-i : goal.invariant-loop-i
invariant-loop-i g l = ClausesSo case_clause_at (begins_with (counts (g.S.Scope.use_of l.scope) l.otherwise)) seen_case_clause l.forms l.i l.clauses
