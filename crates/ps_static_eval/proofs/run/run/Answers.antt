use Rattle.std.proofs.Common.{◌≡◌, ◌∙◌, arith, ap, sym, [], true}
use Rattle.ps_static_eval.specs.declared.machine.Control.TheVariants.{Give}
use Rattle.ps_static_eval.specs.InsideMachine.{left, rest, enters}
use Rattle.ps_static_eval.specs.InsideWeight.{is_over}
use Rattle.ps_static_eval.proofs.RunsEnd.{over_empty}
use Rattle.ps_static_eval.proofs.run.run.Goals as goal

pub loop-alloc-preserved : goal.loop-alloc-preserved
loop-alloc-preserved g c =
    let i = c.loop-alloc.invariant in
    (omega (arith, c.turn.ensures.falls, i.0), λ n le. i.1 n le ∙ c.in_ok-control.ensures.same n (omega (arith, i.0, le)))

pub returns-in-Give-clause-same : goal.returns-in-Give-clause-same
returns-in-Give-clause-same g c = λ n le.
    let f = enters c.args.kernel.now n in
    let ends : is_over c.loop-alloc.control c.loop-alloc.frames ≡ true = sym c.over.ensures ∙ c.loop-alloc-test.false in
    let none : c.loop-alloc.frames ≡ [] = over_empty c.in-Give.v c.loop-alloc.frames (ap (λ z. is_over z c.loop-alloc.frames) (sym c.in-Give.is) ∙ ends) in
    c.loop-alloc.invariant.1 n le ∙ ap (λ z. rest c.args.kernel.now f z c.loop-alloc.given.items c.loop-alloc.frames (left c.loop-alloc.machine)) c.in-Give.is
    ∙ ap (λ z. rest c.args.kernel.now f (Give c.in-Give.v) c.loop-alloc.given.items z (left c.loop-alloc.machine)) none

pub returns-in-Halted-clause-same : goal.returns-in-Halted-clause-same
returns-in-Halted-clause-same g c = λ n le.
    let f = enters c.args.kernel.now n in
    c.loop-alloc.invariant.1 n le ∙ ap (λ z. rest c.args.kernel.now f z c.loop-alloc.given.items c.loop-alloc.frames (left c.loop-alloc.machine)) c.in-Halted.is
