use Rattle.std.proofs.Common.{List, [], ap, ◌∙◌}
use Rattle.byte_store.specs.declared.pointer.Value.{Value}
use Rattle.ps_kernel.specs.declared.kernel.Kernel.{Kernel}
use Rattle.ps_meaning.specs.Eval.{CompileEnter}
use Rattle.ps_slots.specs.declared.cell.Cell.TheVariants.{Waits}
use Rattle.ps_static_eval.specs.declared.machine.Control.TheVariants.{Give}
use Rattle.ps_static_eval.specs.InsideMachine.{Left, NextOperand, Resumes, Turns, from, held, last_of, left, waits}
use Rattle.ps_static_eval.proofs.Joins.{body_on, if_ok_map}
use Rattle.ps_static_eval.proofs.turns.go_on.Goals as goal

pub returns-in-Branch-clause-same : goal.returns-in-Branch-clause-same
returns-in-Branch-clause-same g c = λ k f. ap (λ z. from k f (Give c.args.v) [] (waits k f (held k f c.args.frames.now) z) (left c.args.machine.now)) c.in-Branch.is ∙ c.branch-at.ensures.same k f c.args.given.now.items c.args.frames.now (left c.args.machine.now)

pub returns-in-Choice-clause-same : goal.returns-in-Choice-clause-same
returns-in-Choice-clause-same g c = λ k f. ap (λ z. from k f (Give c.args.v) [] (waits k f (held k f c.args.frames.now) z) (left c.args.machine.now)) c.in-Choice.is ∙ c.select.ensures.same k f c.args.given.now.items c.args.frames.now (left c.args.machine.now)

pub returns-in_ok-bind-in-Body-clause-same : goal.returns-in_ok-bind-in-Body-clause-same
returns-in_ok-bind-in-Body-clause-same g c = λ k f. ap (λ z. from k f (Give c.args.v) [] (waits k f (held k f c.args.frames.now) z) (left c.args.machine.now)) c.in-Body.is ∙ body_on k f c.in-Body.x c.args.v c.in-Body.b c.args.frames.now c.bind.new.self c.args.given.now.items (left c.args.machine.now) c.in_ok-bind-in-Body.ensures

pub returns-in-Rest-clause-same : goal.returns-in-Rest-clause-same
returns-in-Rest-clause-same g c =
    if_ok_map (λ x. (k : Kernel) (f : CompileEnter) (m : Left) (vs : List Value) → Turns k f (last_of k f c.in-Rest.at c.in-Rest.es.now) c.args.frames.now m x vs c.in_order.new.frames m)
    (λ x. (k : Kernel) (f : CompileEnter) → Resumes k f (Give c.args.v) [] (Waits c.args.waiting) c.args.frames.now (left c.args.machine.now) x c.args.given.now.items c.in_order.new.frames (left c.args.machine.now)) c.in_order.result
    (λ x h k f. ap (λ z. from k f (Give c.args.v) [] (waits k f (held k f c.args.frames.now) z) (left c.args.machine.now)) c.in-Rest.is ∙ h k f (left c.args.machine.now) c.args.given.now.items) c.in_order.ensures.same

pub returns-in-Put-clause-same : goal.returns-in-Put-clause-same
returns-in-Put-clause-same g c = λ k f. ap (λ z. from k f (Give c.args.v) [] (waits k f (held k f c.args.frames.now) z) (left c.args.machine.now)) c.in-Put.is ∙ c.put_local.ensures.same k f c.args.given.now.items (left c.args.machine.now)

pub returns-in-Operands-clause-same : goal.returns-in-Operands-clause-same
returns-in-Operands-clause-same g c =
    if_ok_map (λ x. (k : Kernel) (f : CompileEnter) (m : Left) → NextOperand k f c.args.v c.in-Operands.es.now c.args.frames.now m x c.next_operand.new.given.items c.next_operand.new.frames)
    (λ x. (k : Kernel) (f : CompileEnter) → Resumes k f (Give c.args.v) [] (Waits c.args.waiting) c.args.frames.now (left c.args.machine.now) x c.next_operand.new.given.items c.next_operand.new.frames (left c.args.machine.now)) c.next_operand.result
    (λ x h k f. ap (λ z. from k f (Give c.args.v) [] (waits k f (held k f c.args.frames.now) z) (left c.args.machine.now)) c.in-Operands.is ∙ h k f (left c.args.machine.now)) c.next_operand.ensures.same
