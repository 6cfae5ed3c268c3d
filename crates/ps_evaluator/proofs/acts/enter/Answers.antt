use Rattle.std.proofs.Common.{◌≡◌, ◌-◌, suc, length, ap, ◌∙◌, sym, arith}
use Rattle.ps_meaning.specs.Eval.{entered}
use Rattle.ps_evaluator.specs.InsideLists.{closed}
use Rattle.ps_evaluator.proofs.Entering.{enters}
use Rattle.ps_evaluator.proofs.acts.enter.Goals as goal

pub returns-clause-same : goal.returns-clause-same
returns-clause-same c = λ f.
    let fits : length c.in-Some.m.now.parameters ≡ length c.args.operands.now = sym c.len.ensures ∙ c.if-len-operands.false in
    let some : c.args.machine.now.calls ≡ suc (c.args.machine.now.calls - 1) = omega (arith, c.if-machine-eq0.false) in
    enters c.args.kernel.now f c.args.depth c.args.at c.args.operands.now c.args.procedure.now c.in-Procedure.lambda c.in-Procedure.kept c.in-Some.m.now c.args.machine.now c.in_ok-locals.locals (c.args.machine.now.calls - 1) c.max-machine.result
    c.in-Procedure.is (sym c.in-Some.ensures.value) fits some c.max-machine.ensures
    (c.in_ok-locals.ensures ∙ ap (λ z. entered c.args.kernel.now (closed c.in-Procedure.lambda z) c.in-Some.m.now c.args.operands.now) c.as_slice.ensures)
