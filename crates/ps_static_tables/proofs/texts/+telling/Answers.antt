use Rattle.std.proofs.Common.{◌≡◌, ℕ, ◌-◌, List, [], ◌++◌, refl, sym, ap, subst, ◌∙◌}
use Rattle.std.proofs.lemmas.List.{take_all}
use Rattle.ps_kernel.specs.declared.expr.Expr.{Expr}
use Rattle.ps_kernel.specs.declared.expr.GroupEntry.{GroupEntry}
use Rattle.ps_kernel.specs.declared.expr.Labelled.{Labelled}
use Rattle.ps_kernel.specs.declared.kernel.Kernel.{Kernel}
use Rattle.ps_static_tables.specs.InsideTexts.{Tells, TellsEach, TellsBranches, TellsGroup}
use Rattle.ps_static_tables.proofs.Lists.{get_any}
use Rattle.ps_static_tables.proofs.TextsAreTold.{no_levels, tells_constant, tells_local, tells_global, tells_lambda, tells_if, tells_let, tells_letrec, tells_begin, tells_set, tells_put, tells_case, tells_call, tells_proper, tells_primitive, each_more, group_more, lambda_missing, lambda_there, branches_deep, branches_more}
use Rattle.ps_static_tables.proofs.texts.+telling.Goals as goal

-- the same of what a part is
part : (k : Kernel) (n : ℕ) (x y : Expr) (old new : List GroupEntry) → x ≡ y → Tells k n x old new → Tells k n y old new
part k n x y old new is h = subst (λ z. Tells k n z old new) is h

parts : (k : Kernel) (n : ℕ) (xs ys : List Expr) (old new : List GroupEntry) → xs ≡ ys → TellsEach k n xs old new → TellsEach k n ys old new
parts k n xs ys old new is h = subst (λ z. TellsEach k n z old new) is h

pub tell-returns-then-level-eq0 : goal.tell-returns-then-level-eq0
tell-returns-then-level-eq0 t c = no_levels c.args.kernel.now c.args.level c.args.e.now c.args.entries.now c.if-level-eq0.true

pub tell-returns-in-Constant : goal.tell-returns-in-Constant
tell-returns-in-Constant t c = tells_constant c.args.kernel.now c.args.level c.args.e.now c.args.entries.now c.if-level-eq0.false c.in-Constant.field-0 c.in-Constant.is

pub tell-returns-in-Local : goal.tell-returns-in-Local
tell-returns-in-Local t c = tells_local c.args.kernel.now c.args.level c.args.e.now c.args.entries.now c.if-level-eq0.false c.in-Local.field-0 c.in-Local.is

pub tell-returns-in-Global : goal.tell-returns-in-Global
tell-returns-in-Global t c = tells_global c.args.kernel.now c.args.level c.args.e.now c.args.entries.now c.if-level-eq0.false c.in-Global.field-0 c.in-Global.is

pub tell-returns-in_ok-tell_lambda-in-Lambda : goal.tell-returns-in_ok-tell_lambda-in-Lambda
tell-returns-in_ok-tell_lambda-in-Lambda t c = tells_lambda c.args.kernel.now c.args.level c.args.e.now c.args.entries.now c.if-level-eq0.false c.in-Lambda.l [] c.tell_lambda.new.entries c.in-Lambda.is refl c.in_ok-tell_lambda-in-Lambda.ensures

pub tell-returns-in_ok-tell-in-If-3 : goal.tell-returns-in_ok-tell-in-If-3
tell-returns-in_ok-tell-in-If-3 t c =
    tells_if c.args.kernel.now c.args.level c.args.e.now c.args.entries.now c.if-level-eq0.false c.in-If.a c.in-If.b c.in-If.c c.tell.new.entries c.tell-in-If.new.entries c.tell-in-If-2.new.entries c.in-If.is
    (part _ _ _ _ _ _ c.get.ensures c.in_ok-tell-in-If.ensures) (part _ _ _ _ _ _ c.get-in-If.ensures c.in_ok-tell-in-If-2.ensures) (part _ _ _ _ _ _ c.get-in-If-2.ensures c.in_ok-tell-in-If-3.ensures)

pub tell-returns-in_ok-tell-in-Let-2 : goal.tell-returns-in_ok-tell-in-Let-2
tell-returns-in_ok-tell-in-Let-2 t c =
    tells_let c.args.kernel.now c.args.level c.args.e.now c.args.entries.now c.if-level-eq0.false c.in-Let.field-0 c.in-Let.a c.in-Let.b c.tell-in-Let.new.entries c.tell-in-Let-2.new.entries c.in-Let.is
    (part _ _ _ _ _ _ c.get-in-Let.ensures c.in_ok-tell-in-Let.ensures) (part _ _ _ _ _ _ c.get-in-Let-2.ensures c.in_ok-tell-in-Let-2.ensures)

pub tell-returns-in_ok-tell-in-Letrec : goal.tell-returns-in_ok-tell-in-Letrec
tell-returns-in_ok-tell-in-Letrec t c =
    tells_letrec c.args.kernel.now c.args.level c.args.e.now c.args.entries.now c.if-level-eq0.false c.in-Letrec.group c.in-Letrec.b c.push_all.new.entries c.tell_group.new.entries c.tell-in-Letrec.new.entries c.in-Letrec.is
    (c.in_ok-push_all-in-Letrec.ensures ∙ ap (λ (g : List GroupEntry). c.args.entries.now ++ g) c.as_slice.ensures)
    (subst (λ (g : List GroupEntry). TellsGroup c.args.kernel.now (c.args.level - 1) g g c.push_all.new.entries c.tell_group.new.entries) c.as_slice-in-Letrec.ensures c.in_ok-tell_group-in-Letrec.ensures)
    (part _ _ _ _ _ _ c.get-in-Letrec.ensures c.in_ok-tell-in-Letrec.ensures)

pub tell-returns-in_ok-tell_each-in-Begin : goal.tell-returns-in_ok-tell_each-in-Begin
tell-returns-in_ok-tell_each-in-Begin t c =
    tells_begin c.args.kernel.now c.args.level c.args.e.now c.args.entries.now c.if-level-eq0.false c.in-Begin.es c.tell_each.new.entries c.in-Begin.is (parts _ _ _ _ _ _ c.as_slice-in-Begin.ensures c.in_ok-tell_each-in-Begin.ensures)

pub tell-returns-in_ok-tell-in-SetGlobal : goal.tell-returns-in_ok-tell-in-SetGlobal
tell-returns-in_ok-tell-in-SetGlobal t c =
    tells_set c.args.kernel.now c.args.level c.args.e.now c.args.entries.now c.if-level-eq0.false c.in-SetGlobal.field-0 c.in-SetGlobal.a c.tell-in-SetGlobal.new.entries c.in-SetGlobal.is (part _ _ _ _ _ _ c.get-in-SetGlobal.ensures c.in_ok-tell-in-SetGlobal.ensures)

pub tell-returns-in_ok-tell-in-SetLocal : goal.tell-returns-in_ok-tell-in-SetLocal
tell-returns-in_ok-tell-in-SetLocal t c =
    tells_put c.args.kernel.now c.args.level c.args.e.now c.args.entries.now c.if-level-eq0.false c.in-SetLocal.field-0 c.in-SetLocal.a c.tell-in-SetLocal.new.entries c.in-SetLocal.is (part _ _ _ _ _ _ c.get-in-SetLocal.ensures c.in_ok-tell-in-SetLocal.ensures)

pub tell-returns-in_ok-tell_branches-in-Case : goal.tell-returns-in_ok-tell_branches-in-Case
tell-returns-in_ok-tell_branches-in-Case t c =
    tells_case c.args.kernel.now c.args.level c.args.e.now c.args.entries.now c.if-level-eq0.false c.in-Case.field-0 c.in-Case.a c.in-Case.branches c.in-Case.last c.tell-in-Case.new.entries c.tell_branches.new.entries c.in-Case.is
    (part _ _ _ _ _ _ c.get-in-Case.ensures c.in_ok-tell-in-Case.ensures)
    (subst (λ (bs : List Labelled). TellsBranches c.args.kernel.now (c.args.level - 1) bs c.in-Case.last c.tell-in-Case.new.entries c.tell_branches.new.entries) c.as_slice-in-Case.ensures
    (subst (λ (l : Expr). TellsBranches c.args.kernel.now (c.args.level - 1) c.as_slice-in-Case.result.now l c.tell-in-Case.new.entries c.tell_branches.new.entries) c.get-in-Case-2.ensures c.in_ok-tell_branches-in-Case.ensures))

pub tell-returns-in_ok-tell_each-in-Call : goal.tell-returns-in_ok-tell_each-in-Call
tell-returns-in_ok-tell_each-in-Call t c =
    tells_call c.args.kernel.now c.args.level c.args.e.now c.args.entries.now c.if-level-eq0.false c.in-Call.f c.in-Call.es c.tell-in-Call.new.entries c.tell_each-in-Call.new.entries c.in-Call.is
    (part _ _ _ _ _ _ c.get-in-Call.ensures c.in_ok-tell-in-Call.ensures) (parts _ _ _ _ _ _ c.as_slice-in-Call.ensures c.in_ok-tell_each-in-Call.ensures)

pub tell-returns-in_ok-tell_each-in-ProperCall : goal.tell-returns-in_ok-tell_each-in-ProperCall
tell-returns-in_ok-tell_each-in-ProperCall t c =
    tells_proper c.args.kernel.now c.args.level c.args.e.now c.args.entries.now c.if-level-eq0.false c.in-ProperCall.f c.in-ProperCall.es c.tell-in-ProperCall.new.entries c.tell_each-in-ProperCall.new.entries c.in-ProperCall.is
    (part _ _ _ _ _ _ c.get-in-ProperCall.ensures c.in_ok-tell-in-ProperCall.ensures) (parts _ _ _ _ _ _ c.as_slice-in-ProperCall.ensures c.in_ok-tell_each-in-ProperCall.ensures)

pub tell-returns-in_ok-tell_each-in-Primitive : goal.tell-returns-in_ok-tell_each-in-Primitive
tell-returns-in_ok-tell_each-in-Primitive t c =
    tells_primitive c.args.kernel.now c.args.level c.args.e.now c.args.entries.now c.if-level-eq0.false c.in-Primitive.field-0 c.in-Primitive.es c.tell_each-in-Primitive.new.entries c.in-Primitive.is
    (parts _ _ _ _ _ _ c.as_slice-in-Primitive.ensures c.in_ok-tell_each-in-Primitive.ensures)

pub tell_branches-returns-then-level-eq0 : goal.tell_branches-returns-then-level-eq0
tell_branches-returns-then-level-eq0 t c = branches_deep c.args.kernel.now c.args.level c.args.branches.now c.args.last.now c.args.entries.now c.if-level-eq0.true

pub tell_branches-returns-in_ok-tell_branches-in-Some : goal.tell_branches-returns-in_ok-tell_branches-in-Some
tell_branches-returns-in_ok-tell_branches-in-Some t c =
    branches_more c.args.kernel.now c.args.level c.args.branches.now c.in-Some.branch.now c.in-Some.rest.now c.args.last.now c.args.entries.now c.tell-in-Some.new.entries c.tell_branches.new.entries c.if-level-eq0.false c.in-Some.ensures.cases.0
    c.in_ok-tell-in-Some.ensures c.in_ok-tell_branches-in-Some.ensures

pub tell_each-loop-e-preserved : goal.tell_each-loop-e-preserved
tell_each-loop-e-preserved t c =
    each_more c.args.kernel.now c.args.level c.args.es.now c.loop-e.e-index c.e-item.result c.args.entries.now c.loop-e.entries c.tell.new.entries c.loop-e-test.true c.e-item.is c.loop-e.invariant c.in_ok-tell.ensures

pub tell_group-loop-entry-preserved : goal.tell_group-loop-entry-preserved
tell_group-loop-entry-preserved t c =
    group_more c.args.kernel.now c.args.level c.args.group.now c.args.group.now c.loop-entry.entry-index _ c.args.entries.now c.loop-entry.entries c.tell_lambda.new.entries c.loop-entry-test.true
    (get_any c.args.group.now c.loop-entry.entry-index _ _ c.loop-entry-test.true) c.loop-entry.invariant c.in_ok-tell_lambda.ensures

pub tell_group-returns : goal.tell_group-returns
tell_group-returns t c =
    subst (λ (g : List GroupEntry). TellsGroup c.args.kernel.now c.args.level c.args.group.now g c.args.entries.now c.loop-entry.entries) (take_all c.loop-entry.entry-index c.args.group.now c.loop-entry-test.false) c.loop-entry.invariant

pub tell_lambda-returns-in_ok-tell-in-Some : goal.tell_lambda-returns-in_ok-tell-in-Some
tell_lambda-returns-in_ok-tell-in-Some t c =
    lambda_there c.args.kernel.now c.args.level c.args.group.now c.args.lambda c.in-Some.m.now c.args.entries.now c.args.entries.now c.tell.new.entries (sym c.in-Some.ensures.value) refl c.in_ok-tell-in-Some.ensures

pub tell_lambda-returns-in-None : goal.tell_lambda-returns-in-None
tell_lambda-returns-in-None t c = lambda_missing c.args.kernel.now c.args.level c.args.group.now c.args.lambda c.args.entries.now c.args.entries.now (sym c.in-None.ensures.value) refl
