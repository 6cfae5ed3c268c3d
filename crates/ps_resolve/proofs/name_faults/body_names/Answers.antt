use Rattle.std.proofs.Common.{sym, ap, ◌∙◌}
use Rattle.ps_plain.specs.Faults.{flaws, or_else}
use Rattle.ps_resolve.specs.InsideNameTables.{scope_of}
use Rattle.ps_resolve.proofs.FaultBodies.{body_names_are}
use Rattle.ps_resolve.proofs.name_faults.body_names.Goals as goal

pub returns-in-Some : goal.returns-in-Some
returns-in-Some c =
    let s = scope_of c.args.scope.now in
    let value = c.in_ok-value.value.now in
    ap (λ z. or_else z ((flaws c.args.names.now value).expr_names s)) c.in-Some.ensures
    ∙ sym (body_names_are s c.args.names.now c.args.body.now c.in_ok-value.writes.now value c.in_ok-value.ensures.cases.0)

pub returns-in-None : goal.returns-in-None
returns-in-None c =
    let s = scope_of c.args.scope.now in
    let value = c.in_ok-value.value.now in
    c.expr_names.ensures
    ∙ ap (λ z. or_else z ((flaws c.args.names.now value).expr_names s)) c.in-None.ensures
    ∙ sym (body_names_are s c.args.names.now c.args.body.now c.in_ok-value.writes.now value c.in_ok-value.ensures.cases.0)
