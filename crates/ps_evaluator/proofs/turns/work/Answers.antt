use Rattle.std.proofs.Common.{◌+◌, [], ◌∙◌}
use Rattle.ps_evaluator.specs.declared.machine.Control.TheVariants.{Work}
use Rattle.ps_evaluator.specs.declared.machine.Job.TheVariants.{Perform}
use Rattle.ps_evaluator.specs.InsideMachine.{Calls, Continues, Follows, Gathers}
use Rattle.ps_evaluator.proofs.Joins.{if_ok_map, down_if, down_let, down_letrec, down_set, down_put, down_case, begin_level, call_level, proper_level, prim_level}
use Rattle.ps_evaluator.proofs.turns.work.Goals as goal

pub returns-in_ok-push-in-If : goal.returns-in_ok-push-in-If
returns-in_ok-push-in-If c = λ f. down_if c.args.kernel.now f c.args.e.now c.args.depth c.args.frames.now.items c.in-If.a c.in-If.b c.in-If.c c.get-in-If-2.result c.get.result c.get-in-If.result c.push.new.self.items
    c.in-If.is c.get-in-If-2.ensures c.get.ensures c.get-in-If.ensures c.in_ok-push-in-If.ensures.items

pub returns-in_ok-push-in-Let : goal.returns-in_ok-push-in-Let
returns-in_ok-push-in-Let c = λ f. down_let c.args.kernel.now f c.args.e.now c.args.depth c.args.frames.now.items c.in-Let.x c.in-Let.a c.in-Let.b c.get-in-Let-2.result c.get-in-Let.result c.push-in-Let.new.self.items
    c.in-Let.is c.get-in-Let-2.ensures c.get-in-Let.ensures c.in_ok-push-in-Let.ensures.items

pub returns-in_ok-push-in-Letrec : goal.returns-in_ok-push-in-Letrec
returns-in_ok-push-in-Letrec c = λ f. down_letrec c.args.kernel.now f c.args.e.now c.args.depth c.args.frames.now.items c.in-Letrec.group c.in-Letrec.b c.as_slice.result c.get-in-Letrec.result c.len.result c.push-in-Letrec.new.self.items
    c.in-Letrec.is c.as_slice.ensures c.get-in-Letrec.ensures c.len.ensures c.in_ok-push-in-Letrec.ensures.items

pub returns-in-Begin : goal.returns-in-Begin
returns-in-Begin c = if_ok_map (λ x. Follows c.args.kernel.now c.args.e.now.place c.as_slice-in-Begin.result.now c.args.depth c.args.frames.now.items x c.in_order.new.frames.items)
    (λ x. Continues c.args.kernel.now (Work c.args.e c.args.depth) c.args.frames.now.items x c.in_order.new.frames.items) c.in_order.result
    (λ x h f. begin_level c.args.kernel.now f c.args.e.now c.args.depth c.args.frames.now.items c.as_slice-in-Begin.result.now (rw c.as_slice-in-Begin.ensures c.in-Begin.is) ∙ h f) (c.in_order.ensures c.args.kernel.now)

pub returns-in_ok-push-in-SetGlobal : goal.returns-in_ok-push-in-SetGlobal
returns-in_ok-push-in-SetGlobal c = λ f. down_set c.args.kernel.now f c.args.e.now c.args.depth c.args.frames.now.items c.in-SetGlobal.g c.in-SetGlobal.a c.get-in-SetGlobal.result c.push-in-SetGlobal.new.self.items
    c.in-SetGlobal.is c.get-in-SetGlobal.ensures c.in_ok-push-in-SetGlobal.ensures.items

pub returns-in_ok-push-in-SetLocal : goal.returns-in_ok-push-in-SetLocal
returns-in_ok-push-in-SetLocal c = λ f. down_put c.args.kernel.now f c.args.e.now c.args.depth c.args.frames.now.items c.in-SetLocal.x c.in-SetLocal.a c.get-in-SetLocal.result c.push-in-SetLocal.new.self.items
    c.in-SetLocal.is c.get-in-SetLocal.ensures c.in_ok-push-in-SetLocal.ensures.items

pub returns-in_ok-push-in-Case : goal.returns-in_ok-push-in-Case
returns-in_ok-push-in-Case c = λ f. down_case c.args.kernel.now f c.args.e.now c.args.depth c.args.frames.now.items c.in-Case.kind c.in-Case.a c.in-Case.branches c.in-Case.last c.get-in-Case-2.result c.get-in-Case.result c.as_slice-in-Case.result c.push-in-Case.new.self.items
    c.in-Case.is c.get-in-Case-2.ensures c.as_slice-in-Case.ensures c.get-in-Case.ensures c.in_ok-push-in-Case.ensures.items

pub returns-in-Call : goal.returns-in-Call
returns-in-Call c = if_ok_map (λ x. Calls c.args.kernel.now c.args.e.now.place (c.args.depth + 1) c.get-in-Call.result.now c.as_slice-in-Call.result.now c.args.depth c.args.frames.now.items x c.nested_call.new.frames.items)
    (λ x. Continues c.args.kernel.now (Work c.args.e c.args.depth) c.args.frames.now.items x c.nested_call.new.frames.items) c.nested_call.result
    (λ x h f. call_level c.args.kernel.now f c.args.e.now c.args.depth c.args.frames.now.items c.get-in-Call.result.now c.as_slice-in-Call.result.now (rw (c.as_slice-in-Call.ensures, c.get-in-Call.ensures) c.in-Call.is) ∙ h f) (c.nested_call.ensures c.args.kernel.now)

pub returns-in-ProperCall : goal.returns-in-ProperCall
returns-in-ProperCall c = if_ok_map (λ x. Calls c.args.kernel.now c.args.e.now.place c.args.depth c.get-in-ProperCall.result.now c.as_slice-in-ProperCall.result.now c.args.depth c.args.frames.now.items x c.proper_call.new.frames.items)
    (λ x. Continues c.args.kernel.now (Work c.args.e c.args.depth) c.args.frames.now.items x c.proper_call.new.frames.items) c.proper_call.result
    (λ x h f. proper_level c.args.kernel.now f c.args.e.now c.args.depth c.args.frames.now.items c.get-in-ProperCall.result.now c.as_slice-in-ProperCall.result.now (rw (c.as_slice-in-ProperCall.ensures, c.get-in-ProperCall.ensures) c.in-ProperCall.is) ∙ h f) (c.proper_call.ensures c.args.kernel.now)

pub returns-in-Primitive : goal.returns-in-Primitive
returns-in-Primitive c = if_ok_map (λ x. Gathers c.args.kernel.now (Perform c.in-Primitive.p) c.args.e.now.place [] c.as_slice-in-Primitive.result.now c.args.depth c.args.frames.now.items x c.primitive.new.frames.items)
    (λ x. Continues c.args.kernel.now (Work c.args.e c.args.depth) c.args.frames.now.items x c.primitive.new.frames.items) c.primitive.result
    (λ x h f. prim_level c.args.kernel.now f c.args.e.now c.args.depth c.args.frames.now.items c.in-Primitive.p c.as_slice-in-Primitive.result.now (rw c.as_slice-in-Primitive.ensures c.in-Primitive.is) ∙ h f) (c.primitive.ensures c.args.kernel.now)
