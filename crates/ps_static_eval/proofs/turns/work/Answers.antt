use Rattle.std.proofs.Common.{List, ap, sym, ◌∙◌, arith}
use Rattle.std.specs.Prelude.{is_some, slice_get}
use Rattle.ps_runs.specs.Effects.{value_in}
use Rattle.byte_store.specs.declared.pointer.Value.{Value}
use Rattle.ps_kernel.specs.declared.kernel.Kernel.{Kernel}
use Rattle.ps_runs.specs.Runs.{or_wrong}
use Rattle.ps_meaning.specs.Eval.{CompileEnter, compile}
use Rattle.ps_slots.specs.declared.cell.Cell.TheVariants.{Waits}
use Rattle.ps_static_eval.specs.declared.machine.Waiting.TheVariants as waiting
use Rattle.ps_static_eval.specs.declared.machine.Job.TheVariants.{Perform}
use Rattle.ps_static_eval.specs.InsideMachine.{Calling, Left, Turns, anywhere, left, last_of, gathered, called, compile_local, compile_global}
use Rattle.ps_static_eval.proofs.Joins.{if_ok_map, same_run}
use Rattle.ps_static_eval.proofs.FormsGoDown.{down_if, down_let, down_put, down_set, down_case, does_begin, does_constant, does_global, does_local, does_primitive, does_call, does_proper}
use Rattle.ps_static_eval.proofs.TextsAreLighter.{cells_push, of_if, of_let, of_put, of_set, of_case}
use Rattle.ps_static_eval.proofs.turns.work.Goals as goal

pub returns-in_ok-wait-in-If-clause-same : goal.returns-in_ok-wait-in-If-clause-same
returns-in_ok-wait-in-If-clause-same g c = λ q. let f : CompileEnter = anywhere q in down_if c.args.kernel.now f c.args.e.now c.args.frames.now c.args.given.now.items (left c.args.machine.now) c.in-If.a c.in-If.b c.in-If.c c.get-in-If-2.result c.get.result c.get-in-If.result c.wait.new.self c.in-If.is c.get-in-If-2.ensures c.get.ensures c.get-in-If.ensures c.in_ok-wait-in-If.ensures

pub returns-in_ok-wait-in-If-clause-lighter : goal.returns-in_ok-wait-in-If-clause-lighter
returns-in_ok-wait-in-If-clause-lighter g c = omega (
  arith,
  cells_push c.args.frames.now c.wait.new.self (Waits (waiting.Branch c.args.e.now.place c.get.result c.get-in-If.result)) c.in_ok-wait-in-If.ensures,
  of_if c.args.e.now c.in-If.a c.in-If.b c.in-If.c c.get-in-If-2.result c.get.result c.get-in-If.result c.in-If.is c.get-in-If-2.ensures c.get.ensures c.get-in-If.ensures,
)

pub returns-in_ok-wait-in-Let-clause-same : goal.returns-in_ok-wait-in-Let-clause-same
returns-in_ok-wait-in-Let-clause-same g c = λ q. let f : CompileEnter = anywhere q in down_let c.args.kernel.now f c.args.e.now c.args.frames.now c.args.given.now.items (left c.args.machine.now) c.in-Let.x c.in-Let.a c.in-Let.b c.get-in-Let-2.result c.get-in-Let.result c.wait-in-Let.new.self c.in-Let.is c.get-in-Let-2.ensures c.get-in-Let.ensures c.in_ok-wait-in-Let.ensures

pub returns-in_ok-wait-in-Let-clause-lighter : goal.returns-in_ok-wait-in-Let-clause-lighter
returns-in_ok-wait-in-Let-clause-lighter g c = omega (
  arith,
  cells_push c.args.frames.now c.wait-in-Let.new.self (Waits (waiting.Body c.in-Let.x c.get-in-Let.result)) c.in_ok-wait-in-Let.ensures,
  of_let c.args.e.now c.in-Let.x c.in-Let.a c.in-Let.b c.get-in-Let-2.result c.get-in-Let.result c.in-Let.is c.get-in-Let-2.ensures c.get-in-Let.ensures,
)

pub returns-in_ok-wait-in-SetLocal-clause-same : goal.returns-in_ok-wait-in-SetLocal-clause-same
returns-in_ok-wait-in-SetLocal-clause-same g c = λ q. let f : CompileEnter = anywhere q in down_put c.args.kernel.now f c.args.e.now c.args.frames.now c.args.given.now.items (left c.args.machine.now) c.in-SetLocal.x c.in-SetLocal.a c.get-in-SetLocal.result c.wait-in-SetLocal.new.self c.in-SetLocal.is c.get-in-SetLocal.ensures c.in_ok-wait-in-SetLocal.ensures

pub returns-in_ok-wait-in-SetLocal-clause-lighter : goal.returns-in_ok-wait-in-SetLocal-clause-lighter
returns-in_ok-wait-in-SetLocal-clause-lighter g c = omega (
  arith,
  cells_push c.args.frames.now c.wait-in-SetLocal.new.self (Waits (waiting.Put c.args.e.now.place c.in-SetLocal.x)) c.in_ok-wait-in-SetLocal.ensures,
  of_put c.args.e.now c.in-SetLocal.x c.in-SetLocal.a c.get-in-SetLocal.result c.in-SetLocal.is c.get-in-SetLocal.ensures,
)

pub returns-in_ok-wait-in-Case-clause-same : goal.returns-in_ok-wait-in-Case-clause-same
returns-in_ok-wait-in-Case-clause-same g c = λ q. let f : CompileEnter = anywhere q in down_case c.args.kernel.now f c.args.e.now c.args.frames.now c.args.given.now.items (left c.args.machine.now) c.in-Case.kind c.in-Case.a c.in-Case.branches c.in-Case.last c.get-in-Case-2.result c.get-in-Case.result c.as_slice-in-Case.result c.wait-in-Case.new.self c.in-Case.is c.get-in-Case-2.ensures c.as_slice-in-Case.ensures c.get-in-Case.ensures c.in_ok-wait-in-Case.ensures

pub returns-in_ok-wait-in-Case-clause-lighter : goal.returns-in_ok-wait-in-Case-clause-lighter
returns-in_ok-wait-in-Case-clause-lighter g c = omega (
  arith,
  cells_push c.args.frames.now c.wait-in-Case.new.self (Waits (waiting.Choice c.args.e.now.place c.in-Case.kind c.as_slice-in-Case.result c.get-in-Case.result)) c.in_ok-wait-in-Case.ensures,
  of_case c.args.e.now c.in-Case.kind c.in-Case.a c.in-Case.branches c.in-Case.last c.get-in-Case-2.result c.get-in-Case.result c.as_slice-in-Case.result.now c.in-Case.is c.get-in-Case-2.ensures c.as_slice-in-Case.ensures c.get-in-Case.ensures,
)

pub returns-in-Constant-clause-same : goal.returns-in-Constant-clause-same
returns-in-Constant-clause-same g c = λ q.
    let f : CompileEnter = anywhere q in
    same_run c.args.kernel.now f (compile c.args.kernel.now f c.args.e.now 0) (or_wrong c.args.e.now.place c.constant_of.result) c.args.frames.now (left c.args.machine.now) c.given_or_wrong.result c.args.given.now.items c.args.frames.now (left c.args.machine.now)
    (does_constant c.args.kernel.now f c.args.e.now c.in-Constant.c c.constant_of.result c.in-Constant.is (c.constant_of.ensures c.args.kernel.now c.requires.known))
    (c.given_or_wrong.ensures.same c.args.kernel.now f c.args.given.now.items c.args.frames.now (left c.args.machine.now))

pub returns-in-Local-clause-same : goal.returns-in-Local-clause-same
returns-in-Local-clause-same g c = λ q.
    let f : CompileEnter = anywhere q in
    same_run c.args.kernel.now f (compile c.args.kernel.now f c.args.e.now 0) (compile_local c.args.kernel.now f c.in-Local.x c.args.e.now.place) c.args.frames.now (left c.args.machine.now) c.local.result c.args.given.now.items c.args.frames.now (left c.args.machine.now)
    (does_local c.args.kernel.now f c.args.e.now c.in-Local.x c.in-Local.is)
    (c.local.ensures.same c.args.kernel.now f c.args.given.now.items (left c.args.machine.now) c.requires.known)

pub returns-in-Global-clause-same : goal.returns-in-Global-clause-same
returns-in-Global-clause-same g c = λ q.
    let f : CompileEnter = anywhere q in
    same_run c.args.kernel.now f (compile c.args.kernel.now f c.args.e.now 0) (compile_global c.args.kernel.now f c.in-Global.g c.args.e.now.place) c.args.frames.now (left c.args.machine.now) c.global.result c.args.given.now.items c.args.frames.now (left c.args.machine.now)
    (does_global c.args.kernel.now f c.args.e.now c.in-Global.g c.in-Global.is)
    (c.global.ensures.same c.args.kernel.now f c.args.given.now.items c.args.frames.now (left c.args.machine.now) c.requires.known (sym c.as_slice.ensures))

pub returns-in-Begin-clause-same : goal.returns-in-Begin-clause-same
returns-in-Begin-clause-same g c =
    if_ok_map (λ x. (k : Kernel) (f : CompileEnter) (m : Left) (vs : List Value) → Turns k f (last_of k f c.args.e.now.place c.as_slice-in-Begin.result.now) c.args.frames.now m x vs c.in_order.new.frames m)
    (λ x. (f : Calling) → Turns c.args.kernel.now (anywhere f) (compile c.args.kernel.now (anywhere f) c.args.e.now 0) c.args.frames.now (left c.args.machine.now) x c.args.given.now.items c.in_order.new.frames (left c.args.machine.now)) c.in_order.result
    (λ x h q. let f : CompileEnter = anywhere q in same_run c.args.kernel.now f (compile c.args.kernel.now f c.args.e.now 0) (last_of c.args.kernel.now f c.args.e.now.place c.as_slice-in-Begin.result.now) c.args.frames.now (left c.args.machine.now) x c.args.given.now.items c.in_order.new.frames (left c.args.machine.now) (does_begin c.args.kernel.now f c.args.e.now c.as_slice-in-Begin.result.now (rw c.as_slice-in-Begin.ensures c.in-Begin.is)) (h c.args.kernel.now f (left c.args.machine.now) c.args.given.now.items)) c.in_order.ensures.same

pub returns-in-Call-clause-same : goal.returns-in-Call-clause-same
returns-in-Call-clause-same g c =
    if_ok_map (λ x. (k : Kernel) (f : CompileEnter) (m : Left) → Turns k f (called k f c.named-lambda.result c.args.e.now.place c.as_slice-in-Call.result.now) c.args.frames.now m x c.call.new.given.items c.call.new.frames m)
    (λ x. (f : Calling) → Turns c.args.kernel.now (anywhere f) (compile c.args.kernel.now (anywhere f) c.args.e.now 0) c.args.frames.now (left c.args.machine.now) x c.call.new.given.items c.call.new.frames (left c.args.machine.now)) c.call.result
    (λ x h q. let f : CompileEnter = anywhere q in same_run c.args.kernel.now f (compile c.args.kernel.now f c.args.e.now 0) (called c.args.kernel.now f c.named-lambda.result c.args.e.now.place c.as_slice-in-Call.result.now) c.args.frames.now (left c.args.machine.now) x c.call.new.given.items c.call.new.frames (left c.args.machine.now) (does_call c.args.kernel.now q c.args.e.now c.get-in-Call.result.now c.as_slice-in-Call.result.now c.named-lambda.result (rw (c.as_slice-in-Call.ensures, c.get-in-Call.ensures) c.in-Call.is) (c.named-lambda.ensures f)) (h c.args.kernel.now f (left c.args.machine.now))) c.call.ensures.same

pub returns-in-ProperCall-clause-same : goal.returns-in-ProperCall-clause-same
returns-in-ProperCall-clause-same g c =
    if_ok_map (λ x. (k : Kernel) (f : CompileEnter) (m : Left) → Turns k f (called k f c.named-lambda-in-ProperCall.result c.args.e.now.place c.as_slice-in-ProperCall.result.now) c.args.frames.now m x c.call-in-ProperCall.new.given.items c.call-in-ProperCall.new.frames m)
    (λ x. (f : Calling) → Turns c.args.kernel.now (anywhere f) (compile c.args.kernel.now (anywhere f) c.args.e.now 0) c.args.frames.now (left c.args.machine.now) x c.call-in-ProperCall.new.given.items c.call-in-ProperCall.new.frames (left c.args.machine.now)) c.call-in-ProperCall.result
    (λ x h q. let f : CompileEnter = anywhere q in same_run c.args.kernel.now f (compile c.args.kernel.now f c.args.e.now 0) (called c.args.kernel.now f c.named-lambda-in-ProperCall.result c.args.e.now.place c.as_slice-in-ProperCall.result.now) c.args.frames.now (left c.args.machine.now) x c.call-in-ProperCall.new.given.items c.call-in-ProperCall.new.frames (left c.args.machine.now) (does_proper c.args.kernel.now q c.args.e.now c.get-in-ProperCall.result.now c.as_slice-in-ProperCall.result.now c.named-lambda-in-ProperCall.result (rw (c.as_slice-in-ProperCall.ensures, c.get-in-ProperCall.ensures) c.in-ProperCall.is) (c.named-lambda-in-ProperCall.ensures f)) (h c.args.kernel.now f (left c.args.machine.now))) c.call-in-ProperCall.ensures.same

pub returns-in-Primitive-clause-same : goal.returns-in-Primitive-clause-same
returns-in-Primitive-clause-same g c =
    if_ok_map (λ x. (k : Kernel) (f : CompileEnter) (m : Left) → Turns k f (gathered k f (Perform c.in-Primitive.p) c.args.e.now.place c.as_slice-in-Primitive.result.now) c.args.frames.now m x c.gather.new.given.items c.gather.new.frames m)
    (λ x. (f : Calling) → Turns c.args.kernel.now (anywhere f) (compile c.args.kernel.now (anywhere f) c.args.e.now 0) c.args.frames.now (left c.args.machine.now) x c.gather.new.given.items c.gather.new.frames (left c.args.machine.now)) c.gather.result
    (λ x h q. let f : CompileEnter = anywhere q in same_run c.args.kernel.now f (compile c.args.kernel.now f c.args.e.now 0) (gathered c.args.kernel.now f (Perform c.in-Primitive.p) c.args.e.now.place c.as_slice-in-Primitive.result.now) c.args.frames.now (left c.args.machine.now) x c.gather.new.given.items c.gather.new.frames (left c.args.machine.now) (does_primitive c.args.kernel.now f c.args.e.now c.in-Primitive.p c.as_slice-in-Primitive.result.now (rw c.as_slice-in-Primitive.ensures c.in-Primitive.is)) (h c.args.kernel.now f (left c.args.machine.now))) c.gather.ensures.same

pub returns-in_ok-wait-in-None-clause-same : goal.returns-in_ok-wait-in-None-clause-same
returns-in_ok-wait-in-None-clause-same g c = λ q. let f : CompileEnter = anywhere q in down_set c.args.kernel.now f c.args.e.now c.args.frames.now c.args.given.now.items (left c.args.machine.now) c.in-SetGlobal.g c.in-SetGlobal.a c.get-in-None.result c.wait-in-None.new.self c.in-SetGlobal.is
    (ap is_some (sym (c.lambda_at.ensures ∙ ap (λ z. value_in (slice_get z c.in-SetGlobal.g)) c.as_slice-in-SetGlobal.ensures.value ∙ c.requires.known.numbers.procedures c.in-SetGlobal.g) ∙ c.in-None.is))
    c.get-in-None.ensures c.in_ok-wait-in-None.ensures

pub returns-in_ok-wait-in-None-clause-lighter : goal.returns-in_ok-wait-in-None-clause-lighter
returns-in_ok-wait-in-None-clause-lighter g c = omega (
  arith,
  cells_push c.args.frames.now c.wait-in-None.new.self (Waits (waiting.Assigned c.in-SetGlobal.g)) c.in_ok-wait-in-None.ensures,
  of_set c.args.e.now c.in-SetGlobal.g c.in-SetGlobal.a c.get-in-None.result c.in-SetGlobal.is c.get-in-None.ensures,
)
