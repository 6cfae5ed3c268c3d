use Rattle.std.proofs.Common.{◌≡◌, ◌-◌, false, sym, ap, subst, ◌∙◌}
use Rattle.std.specs.Prelude.{OnOk, slice_get}
use Rattle.std.specs.List.{fold}
use Rattle.ps_kernel.specs.declared.expr.Expr.{out-Expr}
use Rattle.ps_kernel.specs.declared.validity.walk.Walk.{Walk}
use Rattle.ps_kernel.specs.Marks.{Node, labels_of, body_of}
use Rattle.ps_kernel.specs.InsideWalks.{step}
use Rattle.ps_kernel.specs.InsideSteps.{Passes, Entire, Branch, branch_of, label_of, nowhere, steps, kind_steps, body_steps}
use Rattle.ps_kernel.proofs.StepsOfANode.{over_three, stays, of_no_levels, of_some_levels, of_choice, of_constant, of_local, of_global, of_lambda, of_if, of_let, of_letrec, of_begin, of_set, of_set_local, of_case, of_call, of_proper, of_primitive}
use Rattle.ps_kernel.proofs.validity.walk.+walking.Goals as goal

pub walk_expr-returns-then-not-walk : goal.walk_expr-returns-then-not-walk
walk_expr-returns-then-not-walk t c = sym (stays c.args.kernel.now c.args.walk.now (steps c.args.kernel.now c.args.left c.args.tail (Entire c.args.e.now)) c.if-not-walk.true)

pub walk_expr-returns-then-left-eq0 : goal.walk_expr-returns-then-left-eq0
walk_expr-returns-then-left-eq0 t c = rw (c.if-left-eq0.true, of_no_levels) c.meet_too_deep.ensures

pub walk_expr-returns : goal.walk_expr-returns
walk_expr-returns t c = subst (λ (z : Walk). OnOk c.walk_kind.result (c.walk_kind.new.walk ≡ z)) (ap (λ (w : Walk). fold (step c.args.kernel.now) w (kind_steps c.args.kernel.now (c.args.left - 1) c.args.tail (out-Expr c.args.e.now).kind)) c.meet_node.ensures ∙ ap (fold (step c.args.kernel.now) c.args.walk.now) (sym (of_some_levels c.args.kernel.now c.args.left c.args.tail c.args.e.now c.if-left-eq0.false))) c.walk_kind.ensures

pub walk_kind-returns-in-Constant : goal.walk_kind-returns-in-Constant
walk_kind-returns-in-Constant t c = rw (c.in-Constant.is, of_constant) c.quote.ensures

pub walk_kind-returns-in-Local : goal.walk_kind-returns-in-Local
walk_kind-returns-in-Local t c = rw (c.in-Local.is, of_local) c.mention.ensures

pub walk_kind-returns-in-Global : goal.walk_kind-returns-in-Global
walk_kind-returns-in-Global t c = rw (c.in-Global.is, of_global) c.read_global.ensures

pub walk_kind-returns-in_ok-walk_lambda-in-Lambda :
    goal.walk_kind-returns-in_ok-walk_lambda-in-Lambda
walk_kind-returns-in_ok-walk_lambda-in-Lambda t c = rw (c.in-Lambda.is, of_lambda) (c.in_ok-walk_lambda-in-Lambda.ensures)

pub walk_kind-returns-in_ok-walk_choice-in-If : goal.walk_kind-returns-in_ok-walk_choice-in-If
walk_kind-returns-in_ok-walk_choice-in-If t c = rw (c.in-If.is, of_if) (cc (c.get.ensures, c.get-in-If.ensures, c.get-in-If-2.ensures, c.in_ok-walk_choice-in-If.ensures))

pub walk_kind-returns-in_ok-walk_let-in-Let : goal.walk_kind-returns-in_ok-walk_let-in-Let
walk_kind-returns-in_ok-walk_let-in-Let t c = rw (c.in-Let.is, of_let) (cc (c.get-in-Let.ensures, c.get-in-Let-2.ensures, c.in_ok-walk_let-in-Let.ensures))

pub walk_kind-returns-in_ok-walk_letrec-in-Letrec : goal.walk_kind-returns-in_ok-walk_letrec-in-Letrec
walk_kind-returns-in_ok-walk_letrec-in-Letrec t c = rw (c.in-Letrec.is, of_letrec) (cc (c.as_slice.ensures, c.get-in-Letrec.ensures, c.in_ok-walk_letrec-in-Letrec.ensures))

pub walk_kind-returns-in_ok-walk_sequence-in-Begin :
    goal.walk_kind-returns-in_ok-walk_sequence-in-Begin
walk_kind-returns-in_ok-walk_sequence-in-Begin t c = rw (c.in-Begin.is, of_begin) (cc (c.len.ensures, c.begin.ensures, c.as_slice-in-Begin.ensures, c.in_ok-walk_sequence-in-Begin.ensures))

pub walk_kind-returns-in_ok-walk_expr-in-SetGlobal :
    goal.walk_kind-returns-in_ok-walk_expr-in-SetGlobal
walk_kind-returns-in_ok-walk_expr-in-SetGlobal t c = rw (c.in-SetGlobal.is, of_set) (cc (c.assign_global.ensures, c.get-in-SetGlobal.ensures, c.in_ok-walk_expr-in-SetGlobal.ensures))

pub walk_kind-returns-in_ok-walk_call-in-Call : goal.walk_kind-returns-in_ok-walk_call-in-Call
walk_kind-returns-in_ok-walk_call-in-Call t c = rw (c.in-Call.is, of_call) (cc (c.get-in-Call.ensures, c.as_slice-in-Call.ensures, c.in_ok-walk_call-in-Call.ensures))

pub walk_kind-returns-in_ok-walk_call-in-ProperCall : goal.walk_kind-returns-in_ok-walk_call-in-ProperCall
walk_kind-returns-in_ok-walk_call-in-ProperCall t c = rw (c.in-ProperCall.is, of_proper) (cc (c.replace.ensures, c.get-in-ProperCall.ensures, c.as_slice-in-ProperCall.ensures, c.in_ok-walk_call-in-ProperCall.ensures))

pub walk_kind-returns-in_ok-walk_parts-in-Primitive :
    goal.walk_kind-returns-in_ok-walk_parts-in-Primitive
walk_kind-returns-in_ok-walk_parts-in-Primitive t c = rw (c.in-Primitive.is, of_primitive) (cc (c.len-in-Primitive.ensures, c.perform.ensures, c.as_slice-in-Primitive.ensures, c.in_ok-walk_parts-in-Primitive.ensures))

pub walk_lambda-returns-then-not-walk : goal.walk_lambda-returns-then-not-walk
walk_lambda-returns-then-not-walk t c =
    sym (stays c.args.kernel.now c.meet_lambda.new.walk (body_steps (steps c.args.kernel.now c.args.left) (slice_get c.args.kernel.now.lambdas c.args.number)) c.if-not-walk.true) ∙ ap (λ (w : Walk). fold (step c.args.kernel.now) w (body_steps (steps c.args.kernel.now c.args.left) (slice_get c.args.kernel.now.lambdas c.args.number))) c.meet_lambda.ensures

pub walk_branch-returns-then-not-walk : goal.walk_branch-returns-then-not-walk
walk_branch-returns-then-not-walk t c = sym (stays c.args.kernel.now c.args.walk.now (steps c.args.kernel.now c.args.left c.args.tail (Branch c.args.branch.now c.args.rest.now c.args.last.now)) c.if-not-walk.true)

pub walk_branch-returns-then-left-eq0 : goal.walk_branch-returns-then-left-eq0
walk_branch-returns-then-left-eq0 t c = rw (c.if-left-eq0.true, of_no_levels) c.meet_too_deep.ensures

pub walk_branch-returns : goal.walk_branch-returns
walk_branch-returns t c =
    let k = c.args.kernel.now in
    let n = c.args.left - 1 in
    let a = steps k n false (label_of (labels_of c.args.branch.now)) in
    let b = steps k n c.args.tail (Entire (body_of c.args.branch.now)) in
    let d = steps k n c.args.tail (branch_of c.args.rest.now c.args.last.now) in
    let p : c.walk_labels.new.walk ≡ fold (step k) c.meet_node.new.walk a = cc (c.walk_labels.ensures, c.as_slice.ensures) in
    subst (λ (z : Walk). OnOk c.walk_branches.result (c.walk_branches.new.walk ≡ z))
    (over_three k c.args.walk.now c.meet_node.new.walk c.walk_labels.new.walk c.walk_expr.new.walk (Passes (Node nowhere)) a b d c.meet_node.ensures p c.in_ok-walk_expr.ensures
    ∙ ap (fold (step k) c.args.walk.now) (sym (of_choice k c.args.left c.args.tail c.args.branch.now c.args.rest.now c.args.last.now c.if-left-eq0.false))) c.walk_branches.ensures

pub walk_kind-returns-in_ok-walk_expr-in-SetLocal :
    goal.walk_kind-returns-in_ok-walk_expr-in-SetLocal
walk_kind-returns-in_ok-walk_expr-in-SetLocal t c = rw (c.in-SetLocal.is, of_set_local) (cc (c.in_ok-assign-in-SetLocal.ensures, c.get-in-SetLocal.ensures, c.in_ok-walk_expr-in-SetLocal.ensures))

pub walk_kind-returns-in_ok-walk_case-in-Case : goal.walk_kind-returns-in_ok-walk_case-in-Case
walk_kind-returns-in_ok-walk_case-in-Case t c = rw (c.in-Case.is, of_case) (cc (c.choose.ensures, c.as_slice-in-Case.ensures, c.as_slice-in-Case-2.ensures, c.get-in-Case.ensures, c.get-in-Case-2.ensures, c.in_ok-walk_case-in-Case.ensures))
