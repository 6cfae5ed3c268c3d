use Rattle.std.proofs.Common.{◌≡◌, ◌+◌, ◌-◌, suc, length, reverse, ap, ◌∙◌, sym, refl, ◌++◌, arith}
use Rattle.std.proofs.lemmas.List.{length-reverse}
use Rattle.ps_static_eval.specs.InsideMachine.{left, slots}
use Rattle.ps_static_eval.specs.InsideWeight.{bodies, cells_weight, weight}
use Rattle.ps_static_eval.proofs.FramesBegin.{enter_on}
use Rattle.ps_static_eval.proofs.TextsAreLighter.{body_weight, enter_lighter}
use Rattle.ps_static_eval.proofs.jobs.enter.Goals as goal

pub returns-clause-same : goal.returns-clause-same
returns-clause-same g c = λ f.
    let vs = reverse c.args.given.now.items in
    let m = left c.args.machine.now in
    let lambda = c.in-Some.lambda.now in
    let some : m.calls ≡ suc (m.calls - 1) = omega (arith, c.if-machine-eq0.false) in
    let fits : length lambda.parameters ≡ length vs = sym c.len.ensures ∙ c.if-len-as_slice.false ∙ ap length c.as_slice.ensures.value ∙ sym (length-reverse c.args.given.now.items) in
    enter_on c.args.kernel.now f c.args.l c.args.at vs m c.args.frames.now c.begin_frame.new.frames c.bind_all.new.frames (m.calls - 1) lambda (record { ref_ptr = c.in-Some.lambda.ref_ptr; now = lambda.body }) c.bind_all.new.given.items
    (sym c.in-Some.ensures.value) fits some refl (c.in_ok-begin_frame.ensures.same c.args.kernel.now)
    (c.in_ok-bind_all.ensures.same ∙ ap (λ z. c.begin_frame.new.frames ++ slots z vs) c.as_slice-2.ensures)

pub returns-clause-lighter : goal.returns-clause-lighter
returns-clause-lighter g c =
    let m = left c.args.machine.now in
    let lambda = c.in-Some.lambda.now in
    let one : (m.calls - 1) + 1 ≡ m.calls = omega (arith, c.if-machine-eq0.false) in
    enter_lighter m.calls (m.calls - 1) (bodies c.args.kernel.now) (weight lambda.body) (length lambda.parameters) (cells_weight c.args.frames.now) (cells_weight c.begin_frame.new.frames) (cells_weight c.bind_all.new.frames)
    one (body_weight c.args.kernel.now.lambdas c.args.l lambda (sym c.in-Some.ensures.value)) (omega (arith, c.in_ok-bind_all.ensures.lighter, ap length c.as_slice-2.ensures)) c.in_ok-begin_frame.ensures.lighter
