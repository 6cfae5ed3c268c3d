use Rattle.std.proofs.Common.{refl, sym, ◌∙◌, arith}
use Rattle.ps_kernel.specs.declared.expr.Expr.{Expr}
use Rattle.ps_kernel.specs.declared.expr.Labelled.{Labelled}
use Rattle.ps_kernel.specs.declared.expr.GroupEntry.{GroupEntry}
use Rattle.ps_show.specs.InsideForms.{part, node}
use Rattle.ps_show.specs.ShowText.{Whole, Procedure, Bindings, Binding, Group, Entry, Branch, Else, operands_text, entries_text, branches_text}
use Rattle.ps_show.proofs.PagesAreJoined.{adds_then, adds_nothing, adds_text, adds_behind, adds_behind_none, adds_spaced, adds_spaced_none, member_is}
use Rattle.ps_show.proofs.PartsHaveBrackets.{deep_part, deep_whole, enclosed_part, enclosed_whole, bare_whole, no_other, some_other, no_last, some_last, procedure_there, procedure_absent, of_constant, of_local, of_global, of_lambda, of_if, of_let, of_letrec, of_begin, of_set, of_set_local, of_case, of_call, of_proper, of_primitive}
use Rattle.ps_show.proofs.nodes.+writing.Goals as goal

pub put_expr-returns-then-is_bare : goal.put_expr-returns-then-is_bare
put_expr-returns-then-is_bare t c = adds_text _ _ _ _ (bare_whole c.args.showing.now.kernel.now c.args.showing.now.names.now c.args.showing.now.locals.now c.args.levels c.args.e.now (sym c.is_bare.ensures ∙ c.if-is_bare.true)) c.put_bare.ensures

pub put_expr-returns-then-levels-eq0 : goal.put_expr-returns-then-levels-eq0
put_expr-returns-then-levels-eq0 t c = adds_text _ _ _ _ (deep_whole c.args.showing.now.kernel.now c.args.showing.now.names.now c.args.showing.now.locals.now c.args.levels c.args.e.now (sym c.is_bare.ensures ∙ c.if-is_bare.false) c.if-levels-eq0.true) c.deepen.ensures

pub put_expr-returns : goal.put_expr-returns
unfolding node
put_expr-returns t c = adds_text _ _ _ _ (enclosed_whole c.args.showing.now.kernel.now c.args.showing.now.names.now c.args.showing.now.locals.now c.args.levels c.args.e.now (sym c.is_bare.ensures ∙ c.if-is_bare.false) c.if-levels-eq0.false) (search adds_then depth 8)

pub put_bindings-returns-then-levels-eq0 : goal.put_bindings-returns-then-levels-eq0
put_bindings-returns-then-levels-eq0 t c = adds_text _ _ _ _ (deep_part c.args.showing.now.kernel.now c.args.showing.now.names.now c.args.showing.now.locals.now c.args.levels (Bindings c.args.place c.args.local c.args.value.now) refl c.if-levels-eq0.true) c.deepen.ensures

pub put_bindings-returns : goal.put_bindings-returns
put_bindings-returns t c = adds_text _ _ _ _ (enclosed_part c.args.showing.now.kernel.now c.args.showing.now.names.now c.args.showing.now.locals.now c.args.levels (Bindings c.args.place c.args.local c.args.value.now) refl c.if-levels-eq0.false) (search adds_then depth 12)

pub put_binding-returns-then-levels-eq0 : goal.put_binding-returns-then-levels-eq0
put_binding-returns-then-levels-eq0 t c = adds_text _ _ _ _ (deep_part c.args.showing.now.kernel.now c.args.showing.now.names.now c.args.showing.now.locals.now c.args.levels (Binding c.args.place c.args.local c.args.value.now) refl c.if-levels-eq0.true) c.deepen.ensures

pub put_binding-returns : goal.put_binding-returns
put_binding-returns t c = adds_text _ _ _ _ (enclosed_part c.args.showing.now.kernel.now c.args.showing.now.names.now c.args.showing.now.locals.now c.args.levels (Binding c.args.place c.args.local c.args.value.now) refl c.if-levels-eq0.false) (search adds_then depth 12)

pub put_group-returns-then-levels-eq0 : goal.put_group-returns-then-levels-eq0
put_group-returns-then-levels-eq0 t c = adds_text _ _ _ _ (deep_part c.args.showing.now.kernel.now c.args.showing.now.names.now c.args.showing.now.locals.now c.args.levels (Group c.args.place c.args.group.now) refl c.if-levels-eq0.true) c.deepen.ensures

pub put_group-returns : goal.put_group-returns
put_group-returns t c = adds_text _ _ _ _ (enclosed_part c.args.showing.now.kernel.now c.args.showing.now.names.now c.args.showing.now.locals.now c.args.levels (Group c.args.place c.args.group.now) refl c.if-levels-eq0.false) (search adds_then depth 12)

pub put_entry-returns-then-levels-eq0 : goal.put_entry-returns-then-levels-eq0
put_entry-returns-then-levels-eq0 t c = adds_text _ _ _ _ (deep_part c.args.showing.now.kernel.now c.args.showing.now.names.now c.args.showing.now.locals.now c.args.levels (Entry c.args.place c.args.entry) refl c.if-levels-eq0.true) c.deepen.ensures

pub put_entry-returns : goal.put_entry-returns
put_entry-returns t c = adds_text _ _ _ _ (enclosed_part c.args.showing.now.kernel.now c.args.showing.now.names.now c.args.showing.now.locals.now c.args.levels (Entry c.args.place c.args.entry) refl c.if-levels-eq0.false) (rw (sym c.place_of-at.ensures) (search adds_then depth 12))

pub put_lambda-returns-then-levels-eq0 : goal.put_lambda-returns-then-levels-eq0
put_lambda-returns-then-levels-eq0 t c = adds_text _ _ _ _ (deep_part c.args.showing.now.kernel.now c.args.showing.now.names.now c.args.showing.now.locals.now c.args.levels (Procedure c.args.place c.args.lambda) refl c.if-levels-eq0.true) c.deepen.ensures

pub put_lambda-returns : goal.put_lambda-returns
put_lambda-returns t c = adds_text _ _ _ _ (enclosed_part c.args.showing.now.kernel.now c.args.showing.now.names.now c.args.showing.now.locals.now c.args.levels (Procedure c.args.place c.args.lambda) refl c.if-levels-eq0.false) (search adds_then depth 12)

pub put_branch-returns-then-levels-eq0 : goal.put_branch-returns-then-levels-eq0
put_branch-returns-then-levels-eq0 t c = adds_text _ _ _ _ (deep_part c.args.showing.now.kernel.now c.args.showing.now.names.now c.args.showing.now.locals.now c.args.levels (Branch c.args.place c.args.kind c.args.branch.now) refl c.if-levels-eq0.true) c.deepen.ensures

pub put_branch-returns : goal.put_branch-returns
put_branch-returns t c = adds_text _ _ _ _ (enclosed_part c.args.showing.now.kernel.now c.args.showing.now.names.now c.args.showing.now.locals.now c.args.levels (Branch c.args.place c.args.kind c.args.branch.now) refl c.if-levels-eq0.false) (rw (sym c.as_slice.ensures) (search adds_then depth 12))

pub put_node-returns-in-Constant : goal.put_node-returns-in-Constant
put_node-returns-in-Constant t c = rw (c.in-Constant.is, of_constant) c.put_constant.ensures

pub put_node-returns-in-Local : goal.put_node-returns-in-Local
put_node-returns-in-Local t c = rw (c.in-Local.is, of_local) (adds_nothing _)

pub put_node-returns-in-Global : goal.put_node-returns-in-Global
put_node-returns-in-Global t c = rw (c.in-Global.is, of_global) (adds_nothing _)

pub put_node-returns-in-Lambda : goal.put_node-returns-in-Lambda
put_node-returns-in-Lambda t c = rw (c.in-Lambda.is, of_lambda) c.put_procedure.ensures

pub put_node-returns-in-If : goal.put_node-returns-in-If
put_node-returns-in-If t c = rw (c.in-If.is, of_if, sym c.get.ensures, sym c.get-in-If.ensures, sym c.get-in-If-2.ensures) (search adds_then depth 12)

pub put_node-returns-in-Let : goal.put_node-returns-in-Let
put_node-returns-in-Let t c = rw (c.in-Let.is, of_let, sym c.get-in-Let.ensures, sym c.get-in-Let-2.ensures) (search adds_then depth 12)

pub put_node-returns-in-Letrec : goal.put_node-returns-in-Letrec
put_node-returns-in-Letrec t c = rw (c.in-Letrec.is, of_letrec, sym c.as_slice.ensures, sym c.get-in-Letrec.ensures) (search adds_then depth 12)

pub put_node-returns-in-Begin : goal.put_node-returns-in-Begin
put_node-returns-in-Begin t c = rw (c.in-Begin.is, of_begin, sym c.as_slice-in-Begin.ensures) (search adds_then depth 12)

pub put_node-returns-in-SetGlobal : goal.put_node-returns-in-SetGlobal
put_node-returns-in-SetGlobal t c = rw (c.in-SetGlobal.is, of_set, sym c.get-in-SetGlobal.ensures) (search adds_then depth 12)

pub put_node-returns-in-SetLocal : goal.put_node-returns-in-SetLocal
put_node-returns-in-SetLocal t c = rw (c.in-SetLocal.is, of_set_local, sym c.get-in-SetLocal.ensures) (search adds_then depth 12)

pub put_node-returns-in-Case : goal.put_node-returns-in-Case
put_node-returns-in-Case t c = rw (c.in-Case.is, of_case, sym c.get-in-Case.ensures, sym c.as_slice-in-Case.ensures, sym c.get-in-Case-2.ensures) (search adds_then depth 12)

pub put_node-returns-in-Call : goal.put_node-returns-in-Call
put_node-returns-in-Call t c = rw (c.in-Call.is, of_call, sym c.get-in-Call.ensures, sym c.as_slice-in-Call.ensures) (search adds_then depth 12)

pub put_node-returns-in-ProperCall : goal.put_node-returns-in-ProperCall
put_node-returns-in-ProperCall t c = rw (c.in-ProperCall.is, of_proper, sym c.get-in-ProperCall.ensures, sym c.as_slice-in-ProperCall.ensures) (search adds_then depth 12)

pub put_node-returns-in-Primitive : goal.put_node-returns-in-Primitive
put_node-returns-in-Primitive t c = rw (c.in-Primitive.is, of_primitive, sym c.as_slice-in-Primitive.ensures) (search adds_then depth 12)

pub put_operands-loop-e-preserved : goal.put_operands-loop-e-preserved
unfolding operands_text
put_operands-loop-e-preserved t c = λ u h.
    c.loop-e.invariant u (adds_behind _ _ _ u (λ (e : Expr). part c.args.showing.now c.args.levels (Whole e)) c.loop-e.e-index c.args.es.now c.e-item.result c.loop-e-test.true c.e-item.is c.put.ensures c.put_expr.ensures h)

pub put_operands-returns : goal.put_operands-returns
unfolding operands_text
put_operands-returns t c = c.loop-e.invariant _ (adds_behind_none _ (λ (e : Expr). part c.args.showing.now c.args.levels (Whole e)) c.loop-e.e-index c.args.es.now (omega arith))

pub put_branches-loop-branch-preserved : goal.put_branches-loop-branch-preserved
unfolding branches_text
put_branches-loop-branch-preserved t c = λ u h.
    c.loop-branch.invariant u (adds_behind _ _ _ u (λ (b : Labelled). part c.args.showing.now c.args.levels (Branch c.args.place c.args.kind b)) c.loop-branch.branch-index c.args.branches.now c.branch-item.result c.loop-branch-test.true c.branch-item.is c.put.ensures c.put_branch.ensures h)

pub put_branches-returns : goal.put_branches-returns
unfolding branches_text
put_branches-returns t c = c.loop-branch.invariant _ (adds_behind_none _ (λ (b : Labelled). part c.args.showing.now c.args.levels (Branch c.args.place c.args.kind b)) c.loop-branch.branch-index c.args.branches.now (omega arith))

pub put_entries-loop-i-init : goal.put_entries-loop-i-init
unfolding entries_text
put_entries-loop-i-init t c = λ u h. h

pub put_entries-loop-i-preserved : goal.put_entries-loop-i-preserved
put_entries-loop-i-preserved t c = λ u h.
    c.loop-i.invariant u (adds_spaced _ _ _ u (λ (e : GroupEntry). part c.args.showing.now c.args.levels (Entry c.args.place e)) c.loop-i.i c.args.group.now _ c.loop-i-test.true (member_is c.args.group.now c.loop-i.i _ c.loop-i-test.true) c.put_space.ensures c.put_entry.ensures h)

pub put_entries-returns : goal.put_entries-returns
put_entries-returns t c = c.loop-i.invariant _ (adds_spaced_none _ (λ (e : GroupEntry). part c.args.showing.now c.args.levels (Entry c.args.place e)) c.loop-i.i c.args.group.now (omega arith))

pub put_other-returns-then-is_unit : goal.put_other-returns-then-is_unit
put_other-returns-then-is_unit t c = adds_text _ _ _ _ (sym (no_other (part c.args.showing.now c.args.levels) c.args.e.now (sym c.is_unit.ensures ∙ c.if-is_unit.true))) (adds_nothing _)

pub put_other-returns : goal.put_other-returns
put_other-returns t c = adds_text _ _ _ _ (sym (some_other (part c.args.showing.now c.args.levels) c.args.e.now (sym c.is_unit.ensures ∙ c.if-is_unit.false))) (search adds_then)

pub put_last-returns-then-is_unit : goal.put_last-returns-then-is_unit
put_last-returns-then-is_unit t c = adds_text _ _ _ _ (sym (no_last (part c.args.showing.now c.args.levels) c.args.place c.args.e.now (sym c.is_unit.ensures ∙ c.if-is_unit.true))) (adds_nothing _)

pub put_last-returns-then-levels-eq0 : goal.put_last-returns-then-levels-eq0
put_last-returns-then-levels-eq0 t c =
    adds_text _ _ _ _ (sym (some_last (part c.args.showing.now c.args.levels) c.args.place c.args.e.now (sym c.is_unit.ensures ∙ c.if-is_unit.false)))
    (adds_then _ _ _ _ _ c.put.ensures (adds_text _ _ _ _ (deep_part c.args.showing.now.kernel.now c.args.showing.now.names.now c.args.showing.now.locals.now c.args.levels (Else c.args.place c.args.e.now) refl c.if-levels-eq0.true) c.deepen.ensures))

pub put_last-returns : goal.put_last-returns
put_last-returns t c =
    adds_text _ _ _ _ (sym (some_last (part c.args.showing.now c.args.levels) c.args.place c.args.e.now (sym c.is_unit.ensures ∙ c.if-is_unit.false)))
    (adds_then _ _ _ _ _ c.put.ensures (adds_text _ _ _ _ (enclosed_part c.args.showing.now.kernel.now c.args.showing.now.names.now c.args.showing.now.locals.now c.args.levels (Else c.args.place c.args.e.now) refl c.if-levels-eq0.false) (search adds_then depth 12)))

pub put_procedure-returns-in-Some : goal.put_procedure-returns-in-Some
put_procedure-returns-in-Some t c =
    adds_text _ _ _ _ (sym (procedure_there (part c.args.showing.now c.args.levels) c.args.place _ c.in-Some.lambda.now (sym c.in-Some.ensures.value))) (rw (sym c.as_slice.ensures) (search adds_then depth 12))

pub put_procedure-returns-in-None : goal.put_procedure-returns-in-None
put_procedure-returns-in-None t c = adds_text _ _ _ _ (sym (procedure_absent (part c.args.showing.now c.args.levels) c.args.place _ (sym c.in-None.ensures.value))) c.put-in-None.ensures
