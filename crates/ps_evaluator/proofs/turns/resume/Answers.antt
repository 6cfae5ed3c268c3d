use Rattle.std.proofs.Common.{◌∙◌}
use Rattle.ps_evaluator.specs.declared.machine.Job.TheVariants.{Enter}
use Rattle.ps_evaluator.specs.InsideMachine.{Follows, Gathers, Resumes}
use Rattle.ps_evaluator.proofs.Joins.{if_ok_map, body_on, rest_on, operator_on, operands_on}
use Rattle.ps_evaluator.proofs.turns.resume.Goals as goal

pub returns-in-Body : goal.returns-in-Body
returns-in-Body c = λ k f. body_on k f c.args.frame c.args.v c.in-Body.x c.in-Body.b c.in-Body.depth c.args.frames.now.items c.push.new.self.items c.in-Body.is c.in_ok-push-in-Body.ensures.items

pub returns-in-Rest : goal.returns-in-Rest
returns-in-Rest c = λ k. if_ok_map (λ x. Follows k c.in-Rest.at c.in-Rest.es.now c.in-Rest.depth c.args.frames.now.items x c.in_order.new.frames.items)
    (λ x. Resumes k c.args.frame c.args.v c.args.frames.now.items x c.in_order.new.frames.items) c.in_order.result
    (λ x h f. rest_on k f c.args.frame c.args.v c.in-Rest.at c.in-Rest.es c.in-Rest.depth c.args.frames.now.items c.in-Rest.is ∙ h f) (c.in_order.ensures k)

pub returns-in-Operator : goal.returns-in-Operator
returns-in-Operator c = λ k. if_ok_map (λ x. Gathers k (Enter c.in-Operator.deep c.args.v) c.in-Operator.at c.new-none.result c.in-Operator.es.now c.in-Operator.depth c.args.frames.now.items x c.operands.new.frames.items)
    (λ x. Resumes k c.args.frame c.args.v c.args.frames.now.items x c.operands.new.frames.items) c.operands.result
    (λ x h f. operator_on k f c.args.frame c.args.v c.in-Operator.at c.in-Operator.deep c.in-Operator.es c.in-Operator.depth c.args.frames.now.items c.new-none.result c.in-Operator.is c.new-none.ensures ∙ h f) (c.operands.ensures k)

pub returns : goal.returns
returns c = λ k. if_ok_map (λ x. Gathers k c.in-Operands.job c.in-Operands.at c.push-in-Operands.new.self c.in-Operands.es.now c.in-Operands.depth c.args.frames.now.items x c.operands-in-Operands.new.frames.items)
    (λ x. Resumes k c.args.frame c.args.v c.args.frames.now.items x c.operands-in-Operands.new.frames.items) c.operands-in-Operands.result
    (λ x h f. operands_on k f c.args.frame c.args.v c.in-Operands.job c.in-Operands.at c.in-Operands.done c.in-Operands.es c.in-Operands.depth c.args.frames.now.items c.push-in-Operands.new.self c.in-Operands.is c.in_ok-push-in-Operands.ensures.ok ∙ h f) (c.operands-in-Operands.ensures k)
