use Rattle.std.proofs.Common.{sym, ap, ◌∙◌}
use Rattle.ps_plain.specs.Faults.{flaws, or_else}
use Rattle.ps_resolve.proofs.FaultBodies.{body_is}
use Rattle.ps_resolve.proofs.shapes.body_shape.Goals as goal

pub returns-in-Some : goal.returns-in-Some
returns-in-Some c =
    ap (λ z. or_else z (flaws c.args.names.now c.in_ok-value.value.now).expr_shape) c.in-Some.ensures
    ∙ sym (body_is c.args.names.now c.args.body.now c.in_ok-value.writes.now c.in_ok-value.value.now c.in_ok-value.ensures.cases.0)

pub returns-in-None : goal.returns-in-None
returns-in-None c =
    c.expr_shape.ensures
    ∙ ap (λ z. or_else z (flaws c.args.names.now c.in_ok-value.value.now).expr_shape) c.in-None.ensures
    ∙ sym (body_is c.args.names.now c.args.body.now c.in_ok-value.writes.now c.in_ok-value.value.now c.in_ok-value.ensures.cases.0)
