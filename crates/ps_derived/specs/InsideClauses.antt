-- What the clauses of `cond` and `case` are that refer to forms.
use Rattle.std.specs.Prelude.{map}
use Rattle.std.specs.Option.{option_copied}
use Rattle.ps_derived.specs.declared.clauses.CondClauses.{CondClauses}
use Rattle.ps_derived.specs.declared.clauses.CaseClauses.{CaseClauses}
use Rattle.ps_derived.specs.Clauses.{ClausesOf}
use Rattle.ps_derived.specs.PartsOf.{ClauseOf, CaseClauseOf}
use Rattle.ps_derived.specs.Seen.{seen_clause, seen_case_clause}

abbrev pub seen_cond : CondClauses → ClausesOf ClauseOf
seen_cond x = record { clauses = map seen_clause x.clauses; last = option_copied x.last }

abbrev pub seen_case : CaseClauses → ClausesOf CaseClauseOf
seen_case x = record { clauses = map seen_case_clause x.clauses; last = option_copied x.last }
