use Rattle.std.proofs.Common.{◌≡◌, List, ℕ, refl, sym, ap, subst}
use Rattle.std.specs.Prelude.{OnOk}
use Rattle.std.specs.List.{fold}
use Rattle.ps_show.specs.Bindings.{met, binds, all_bind, branches_bind, group_binds}
use Rattle.ps_show.proofs.LocalsAreMet.{met_two, met_three, met_let, of_no_levels, of_levels, of_constant, of_local, of_global, of_lambda, of_if, of_let, of_letrec, of_begin, of_set, of_set_local, of_case, of_call, of_proper, of_primitive}
use Rattle.ps_show.proofs.survey.+meeting.Goals as goal

pub meet_expr-returns-then-left-eq0 : goal.meet_expr-returns-then-left-eq0
meet_expr-returns-then-left-eq0 t c = ap (fold met c.args.locals.now) (sym (of_no_levels c.args.kernel.now c.args.left c.args.e.now c.if-left-eq0.true))

pub meet_expr-returns : goal.meet_expr-returns
meet_expr-returns t c = subst (λ (b : List ℕ). OnOk c.meet_kind.result (c.meet_kind.new.locals ≡ fold met c.args.locals.now b)) (sym (of_levels c.args.kernel.now c.args.left c.args.e.now c.if-left-eq0.false)) c.meet_kind.ensures

pub meet_kind-returns-in-Constant : goal.meet_kind-returns-in-Constant
meet_kind-returns-in-Constant t c = rw (c.in-Constant.is, of_constant) refl

pub meet_kind-returns-in-Local : goal.meet_kind-returns-in-Local
meet_kind-returns-in-Local t c = rw (c.in-Local.is, of_local) refl

pub meet_kind-returns-in-Global : goal.meet_kind-returns-in-Global
meet_kind-returns-in-Global t c = rw (c.in-Global.is, of_global) refl

pub meet_kind-returns-in_ok-meet_lambda-in-Lambda : goal.meet_kind-returns-in_ok-meet_lambda-in-Lambda
meet_kind-returns-in_ok-meet_lambda-in-Lambda t c = rw (c.in-Lambda.is, of_lambda) c.in_ok-meet_lambda-in-Lambda.ensures

pub meet_kind-returns-in_ok-meet_expr-in-If-3 : goal.meet_kind-returns-in_ok-meet_expr-in-If-3
meet_kind-returns-in_ok-meet_expr-in-If-3 t c = rw (c.in-If.is, of_if, sym c.get.ensures, sym c.get-in-If.ensures, sym c.get-in-If-2.ensures) (met_three c.args.locals.now c.meet_expr.new.locals c.meet_expr-in-If.new.locals c.meet_expr-in-If-2.new.locals (binds c.args.kernel.now c.args.left c.get.result.now) (binds c.args.kernel.now c.args.left c.get-in-If.result.now) (binds c.args.kernel.now c.args.left c.get-in-If-2.result.now) c.in_ok-meet_expr-in-If.ensures c.in_ok-meet_expr-in-If-2.ensures c.in_ok-meet_expr-in-If-3.ensures)

pub meet_kind-returns-in_ok-meet_expr-in-Let-2 : goal.meet_kind-returns-in_ok-meet_expr-in-Let-2
meet_kind-returns-in_ok-meet_expr-in-Let-2 t c = rw (c.in-Let.is, of_let, sym c.get-in-Let.ensures, sym c.get-in-Let-2.ensures) (met_let c.args.locals.now c.meet.new.self c.meet_expr-in-Let.new.locals c.meet_expr-in-Let-2.new.locals c.in-Let.local (binds c.args.kernel.now c.args.left c.get-in-Let.result.now) (binds c.args.kernel.now c.args.left c.get-in-Let-2.result.now) c.in_ok-meet-in-Let.ensures c.in_ok-meet_expr-in-Let.ensures c.in_ok-meet_expr-in-Let-2.ensures)

pub meet_kind-returns-in_ok-meet_expr-in-Letrec : goal.meet_kind-returns-in_ok-meet_expr-in-Letrec
meet_kind-returns-in_ok-meet_expr-in-Letrec t c = rw (c.in-Letrec.is, of_letrec, sym c.as_slice.ensures, sym c.get-in-Letrec.ensures) (met_two c.args.locals.now c.meet_group.new.locals c.meet_expr-in-Letrec.new.locals (group_binds c.args.kernel.now (binds c.args.kernel.now c.args.left) c.as_slice.result.now) (binds c.args.kernel.now c.args.left c.get-in-Letrec.result.now) c.in_ok-meet_group-in-Letrec.ensures c.in_ok-meet_expr-in-Letrec.ensures)

pub meet_kind-returns-in_ok-meet_all-in-Begin : goal.meet_kind-returns-in_ok-meet_all-in-Begin
meet_kind-returns-in_ok-meet_all-in-Begin t c = rw (c.in-Begin.is, of_begin, sym c.as_slice-in-Begin.ensures) c.in_ok-meet_all-in-Begin.ensures

pub meet_kind-returns-in_ok-meet_expr-in-SetGlobal : goal.meet_kind-returns-in_ok-meet_expr-in-SetGlobal
meet_kind-returns-in_ok-meet_expr-in-SetGlobal t c = rw (c.in-SetGlobal.is, of_set, sym c.get-in-SetGlobal.ensures) c.in_ok-meet_expr-in-SetGlobal.ensures

pub meet_kind-returns-in_ok-meet_expr-in-SetLocal : goal.meet_kind-returns-in_ok-meet_expr-in-SetLocal
meet_kind-returns-in_ok-meet_expr-in-SetLocal t c = rw (c.in-SetLocal.is, of_set_local, sym c.get-in-SetLocal.ensures) c.in_ok-meet_expr-in-SetLocal.ensures

pub meet_kind-returns-in_ok-meet_expr-in-Case-2 : goal.meet_kind-returns-in_ok-meet_expr-in-Case-2
meet_kind-returns-in_ok-meet_expr-in-Case-2 t c = rw (c.in-Case.is, of_case, sym c.get-in-Case.ensures, sym c.as_slice-in-Case.ensures, sym c.get-in-Case-2.ensures) (met_three c.args.locals.now c.meet_expr-in-Case.new.locals c.meet_branches.new.locals c.meet_expr-in-Case-2.new.locals (binds c.args.kernel.now c.args.left c.get-in-Case.result.now) (branches_bind (binds c.args.kernel.now c.args.left) c.as_slice-in-Case.result.now) (binds c.args.kernel.now c.args.left c.get-in-Case-2.result.now) c.in_ok-meet_expr-in-Case.ensures c.in_ok-meet_branches-in-Case.ensures c.in_ok-meet_expr-in-Case-2.ensures)

pub meet_kind-returns-in_ok-meet_all-in-Call : goal.meet_kind-returns-in_ok-meet_all-in-Call
meet_kind-returns-in_ok-meet_all-in-Call t c = rw (c.in-Call.is, of_call, sym c.get-in-Call.ensures, sym c.as_slice-in-Call.ensures) (met_two c.args.locals.now c.meet_expr-in-Call.new.locals c.meet_all-in-Call.new.locals (binds c.args.kernel.now c.args.left c.get-in-Call.result.now) (all_bind (binds c.args.kernel.now c.args.left) c.as_slice-in-Call.result.now) c.in_ok-meet_expr-in-Call.ensures c.in_ok-meet_all-in-Call.ensures)

pub meet_kind-returns-in_ok-meet_all-in-ProperCall : goal.meet_kind-returns-in_ok-meet_all-in-ProperCall
meet_kind-returns-in_ok-meet_all-in-ProperCall t c = rw (c.in-ProperCall.is, of_proper, sym c.get-in-ProperCall.ensures, sym c.as_slice-in-ProperCall.ensures) (met_two c.args.locals.now c.meet_expr-in-ProperCall.new.locals c.meet_all-in-ProperCall.new.locals (binds c.args.kernel.now c.args.left c.get-in-ProperCall.result.now) (all_bind (binds c.args.kernel.now c.args.left) c.as_slice-in-ProperCall.result.now) c.in_ok-meet_expr-in-ProperCall.ensures c.in_ok-meet_all-in-ProperCall.ensures)

pub meet_kind-returns-in_ok-meet_all-in-Primitive : goal.meet_kind-returns-in_ok-meet_all-in-Primitive
meet_kind-returns-in_ok-meet_all-in-Primitive t c = rw (c.in-Primitive.is, of_primitive, sym c.as_slice-in-Primitive.ensures) c.in_ok-meet_all-in-Primitive.ensures
