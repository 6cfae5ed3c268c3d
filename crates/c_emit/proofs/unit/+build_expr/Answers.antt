use Rattle.std.proofs.Common.{ap, sym, ◌∙◌}
use Rattle.std.specs.Prelude.{◌++◌}
use Rattle.c_emit.specs.declared.unit.Code.{Code}
use Rattle.c_emit.specs.InsideCode.{Coded, coded_node, coded}
use Rattle.c_emit.proofs.PartsMakeCode.{built-if}
use Rattle.ps_plain.proofs.Trees.{fold-if}
use Rattle.c_emit.proofs.unit.+build_expr.Goals as goal

pub build_expr-returns-in_ok-finish-in-If-clause-statements : goal.build_expr-returns-in_ok-finish-in-If-clause-statements
build_expr-returns-in_ok-finish-in-If-clause-statements t c =
    let o = c.in_ok-target-in-If.ensures.code in
    let r = c.in_ok-branch-in-If.ensures.code in
    let a = coded c.get-in-If.result.now in
    let b = coded c.get-in-If-2.result.now in
    let d = coded c.get-in-If-3.result.now in
    let f = coded c.get-in-If-4.result.now in
    let whole = ap coded c.in-If.is ∙ fold-if coded_node _ _ _ _ _ _ _ in
    let h = built-if _ a b f d _ _ _ _ _ _ _ _ _ _ _ _ _ _ _ _ _ _ _ _ _ _ _ _ _ _ _ _ _ _ _
    c.in_ok-x-in-If.ensures.statements c.in_ok-x-in-If.ensures.variables c.in_ok-x-in-If.ensures.labels c.in_ok-x-in-If.ensures.atom
    c.in_ok-y-in-If.ensures.statements c.in_ok-y-in-If.ensures.variables c.in_ok-y-in-If.ensures.labels c.in_ok-y-in-If.ensures.atom
    (ap (λ (x : Code). x.statements) o) c.in_ok-target-in-If.ensures.target (ap (λ (x : Code). x.variables) o) (ap (λ (x : Code). x.labels) o)
    (ap (λ (x : Code). x.statements) r) c.in_ok-branch-in-If.ensures.place (ap (λ (x : Code). x.variables) r) (ap (λ (x : Code). x.labels) r)
    c.in_ok-other-in-If.ensures.statements c.in_ok-other-in-If.ensures.variables c.in_ok-other-in-If.ensures.labels c.in_ok-other-in-If.ensures.atom
    c.in_ok-jump-in-If.ensures.statements c.in_ok-jump-in-If.ensures.variables c.in_ok-jump-in-If.ensures.labels c.in_ok-jump-in-If.ensures.jump
    c.in_ok-first-in-If.ensures.statements c.in_ok-first-in-If.ensures.labels c.in_ok-first-in-If.ensures.atom
    c.in_ok-finish-in-If.ensures.statements
    in
    let same = ap (λ (z : Coded). c.args.code.now.statements ++ z.statements c.args.code.now.variables c.args.code.now.labels) whole in
    rw (c.comparison_of.ensures, c.get-in-If.ensures, c.get-in-If-2.ensures, c.get-in-If-3.ensures, c.get-in-If-4.ensures) at h ∙ sym same
