use Rattle.std.proofs.Common.{◌≤◌, ℕ, [], ap, ◌∙◌}
use Rattle.ps_kernel.specs.declared.kernel.Kernel.{Kernel}
use Rattle.ps_meaning.specs.Eval.{CompileEnter, compile}
use Rattle.ps_static_eval.specs.declared.machine.Control.TheVariants.{Give, Take}
use Rattle.ps_static_eval.specs.InsideMachine.{Calling, Resumes, Same, Turns, anywhere, enters, enters_within, left, rest}
use Rattle.ps_static_eval.proofs.Joins.{if_ok_map, on}
use Rattle.ps_static_eval.proofs.run.turn.Goals as goal

pub returns-in-Work-clause-same : goal.returns-in-Work-clause-same
returns-in-Work-clause-same g c =
    if_ok_map (λ x. (f : Calling) → Turns c.args.kernel.now (anywhere f) (compile c.args.kernel.now (anywhere f) c.in-Work.e.now 0) c.args.frames.now (left c.args.machine.now) x c.work.new.given.items c.work.new.frames (left c.args.machine.now))
    (λ x. Same c.args.kernel.now c.args.control c.args.given.now.items c.args.frames.now (left c.args.machine.now) x c.work.new.given.items c.work.new.frames (left c.args.machine.now)) c.work.result
    (λ x h n le. ap (λ z. rest c.args.kernel.now (enters c.args.kernel.now n) z c.args.given.now.items c.args.frames.now (left c.args.machine.now)) c.in-Work.is ∙ h (enters_within c.args.kernel.now n)) c.work.ensures.same

pub returns-in-Some-clause-same : goal.returns-in-Some-clause-same
returns-in-Some-clause-same g c =
    if_ok_map (λ x. (k : Kernel) (f : CompileEnter) → Resumes k f (Give c.in-Give.v) [] c.in-Some.cell c.pop.new.self (left c.args.machine.now) x c.resume.new.given.items c.resume.new.frames (left c.resume.new.machine))
    (λ x. Same c.args.kernel.now c.args.control c.args.given.now.items c.args.frames.now (left c.args.machine.now) x c.resume.new.given.items c.resume.new.frames (left c.resume.new.machine)) c.resume.result
    (λ x h n le.
    let f = enters c.args.kernel.now n in
    ap (λ z. rest c.args.kernel.now f z c.args.given.now.items c.args.frames.now (left c.args.machine.now)) c.in-Give.is ∙ on c.args.kernel.now f (Give c.in-Give.v) c.args.given.now.items c.pop.new.self c.args.frames.now c.in-Some.cell (left c.args.machine.now) c.in-Some.ensures ∙ h c.args.kernel.now f) c.resume.ensures.same

pub returns-in-Some-pop-clause-same : goal.returns-in-Some-pop-clause-same
returns-in-Some-pop-clause-same g c =
    if_ok_map (λ x. (n : ℕ) → c.args.machine.now.calls ≤ n → Resumes c.args.kernel.now (enters c.args.kernel.now n) Take c.args.given.now.items c.in-Some-pop.cell c.pop-in-Take.new.self (left c.args.machine.now) x c.take_off.new.given.items c.take_off.new.frames (left c.take_off.new.machine))
    (λ x. Same c.args.kernel.now c.args.control c.args.given.now.items c.args.frames.now (left c.args.machine.now) x c.take_off.new.given.items c.take_off.new.frames (left c.take_off.new.machine)) c.take_off.result
    (λ x h n le.
    let f = enters c.args.kernel.now n in
    ap (λ z. rest c.args.kernel.now f z c.args.given.now.items c.args.frames.now (left c.args.machine.now)) c.in-Take.is ∙ on c.args.kernel.now f Take c.args.given.now.items c.pop-in-Take.new.self c.args.frames.now c.in-Some-pop.cell (left c.args.machine.now) c.in-Some-pop.ensures ∙ h n le) c.take_off.ensures.same
