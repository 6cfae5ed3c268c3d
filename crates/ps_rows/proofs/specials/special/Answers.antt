use Rattle.std.proofs.Common.{◌≡◌, ◌∙◌, List, Bor, map, ap, sym, subst}
use Rattle.std.specs.Option.{option_copied}
use Rattle.ps_derived.specs.PartsOf.{PartsOf, Lambda, Case}
use Rattle.ps_derived.specs.Seen.{idents, seen, seen_case_clause}
use Rattle.ps_derived.specs.declared.types.CaseClause.{CaseClause}
use Rattle.ps_expansion.specs.Does.{Does_by, task_of}
use Rattle.ps_pattern.specs.declared.syntax.Ident.{Ident}
use Rattle.ps_plans.specs.Seen.{seen_plan}
use Rattle.ps_rows.specs.Rows.{special}
use Rattle.ps_rows.proofs.specials.special.Goals as goal

pub returns-in_ok-names-in-Lambda : goal.returns-in_ok-names-in-Lambda
returns-in_ok-names-in-Lambda c =
    let env = c.args.state.now.hygiene.here in
    let body = c.in-Lambda.body.now in
    let parts : Lambda (idents c.in_ok-names-in-Lambda.names) body ≡ seen c.args.parts.now
    = ap (λ (xs : List (Bor Ident)). Lambda (idents xs) body) (c.in_ok-names-in-Lambda.ensures ∙ c.as_slice.ensures)
    ∙ ap seen (sym c.in-Lambda.is) in
    subst (λ (ps : PartsOf). Does_by seen_plan c.lambdas.result
    (special (task_of c.args.task.now) c.args.level c.args.at c.args.first_at env ps) c.args.state.now c.lambdas.new.state)
    parts c.lambdas.ensures

pub returns-in-Case : goal.returns-in-Case
returns-in-Case c =
    let env = c.args.state.now.hygiene.here in
    let key = c.in-Case.key.now in
    let last = option_copied c.in-Case.last in
    let parts : Case key (map seen_case_clause c.as_slice-in-Case.result.now) last ≡ seen c.args.parts.now
    = ap (λ (cs : List CaseClause). Case key (map seen_case_clause cs) last) c.as_slice-in-Case.ensures
    ∙ ap seen (sym c.in-Case.is) in
    subst (λ (ps : PartsOf). Does_by seen_plan c.cases.result
    (special (task_of c.args.task.now) c.args.level c.args.at c.args.first_at env ps) c.args.state.now c.cases.new.state)
    parts c.cases.ensures
