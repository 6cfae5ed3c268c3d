use Rattle.std.proofs.Common.{rules, ap, ◌∙◌, sym, Some, arith}
use Rattle.ps_plain.specs.Forms.{Part, part, conditional_by}
use Rattle.ps_resolve.specs.InsideValues.{scope_of}
use Rattle.ps_resolve.proofs.Bodies.{conditional_is}
use Rattle.ps_resolve.proofs.Options.{one_more}
use Rattle.ps_resolve.proofs.Refusals.{refuses_all}
use Rattle.ps_resolve.proofs.expr.+expr.Goals as goal

pub exprs-returns-in_err-expr : goal.exprs-returns-in_err-expr
exprs-returns-in_err-expr t c =
    let g = λ (p : Part). p.expr (scope_of c.args.scope.now) in
    let all = refuses_all (part c.args.scope.now.names.now) g c.args.parts.now c.loop-datum.datum-index c.datum-item.result c.in_err-expr.field-0.0 c.loop-datum-test.true c.datum-item.is c.in_err-expr.ensures.by in
    search rules

pub exprs-loop-datum-preserved : goal.exprs-loop-datum-preserved
exprs-loop-datum-preserved t c =
    let g = λ (p : Part). p.expr (scope_of c.args.scope.now) in
    one_more (part c.args.scope.now.names.now) g c.args.parts.now c.loop-datum.datum-index c.datum-item.result c.loop-datum-test.true c.datum-item.is c.loop-datum.exprs c.in_ok-expr.field-0 c.loop-datum.invariant c.in_ok-expr.ensures.by
    ∙ ap Some (sym c.in_ok-push.ensures.ok)

pub form-returns-in-Some-ReadByte : goal.form-returns-in-Some-ReadByte
form-returns-in-Some-ReadByte t c =
    let read = c.read_byte.ensures c.args.scope.now.names.now in
    search rules

pub conditional-returns : goal.conditional-returns
conditional-returns t c =
    let is = conditional_is c.args.scope.now.names.now (scope_of c.args.scope.now) c.args.place c.args.operands.now c.t-item.result c.c-item.result c.d-item.result (omega arith) c.t-item.is c.c-item.is c.d-item.is in
    let all = is ∙ (λ i. conditional_by c.args.place (c.in_ok-at.ensures.by i) (c.in_ok-c.ensures.by i) (c.in_ok-d.ensures.by i)) in
    record { by = cc (all, c.in_ok-left.ensures, c.in_ok-right.ensures, c.in_ok-c-2.ensures, c.in_ok-d-2.ensures) }
