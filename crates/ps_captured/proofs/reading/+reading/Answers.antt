use Rattle.std.proofs.Common.{refl, sym}
use Rattle.ps_captured.specs.InsideReading.{sights}
use Rattle.ps_captured.proofs.NodesAreRead.{of_none, of_some, no_branch, some_branch, of_constant, of_local, of_global, of_lambda, of_if, of_let, of_letrec, of_begin, of_set, of_set_local, of_case, of_call, of_proper, of_primitive}
use Rattle.ps_captured.proofs.reading.+reading.Goals as goal

pub read_branches-returns-then-left-eq0 : goal.read_branches-returns-then-left-eq0
read_branches-returns-then-left-eq0 t c = no_branch c.args.lambdas.now c.args.left (sights c.args.seen.now) c.args.branches.now c.args.last.now c.if-left-eq0.true

pub read_branches-returns-in_ok-read_expr-in-Some :
    goal.read_branches-returns-in_ok-read_expr-in-Some
read_branches-returns-in_ok-read_expr-in-Some t c =
    rw (some_branch c.args.lambdas.now c.args.left (sights c.args.seen.now) c.args.branches.now c.in-Some.branch.now c.in-Some.rest.now c.args.last.now c.in-Some.ensures.cases.0 c.if-left-eq0.false, sym c.in_ok-read_expr-in-Some.ensures) c.read_branches.ensures

pub read_expr-returns-then-left-eq0 : goal.read_expr-returns-then-left-eq0
read_expr-returns-then-left-eq0 t c = rw (c.if-left-eq0.true, of_none) refl

pub read_expr-returns : goal.read_expr-returns
read_expr-returns t c = rw (of_some c.args.lambdas.now c.args.left _ c.args.e.now c.if-left-eq0.false) c.read_node.ensures

pub read_node-returns-in-Constant : goal.read_node-returns-in-Constant
read_node-returns-in-Constant t c = rw (c.in-Constant.is, of_constant) refl

pub read_node-returns-in-Local : goal.read_node-returns-in-Local
read_node-returns-in-Local t c = rw (c.in-Local.is, of_local) c.see.ensures

pub read_node-returns-in-Global : goal.read_node-returns-in-Global
read_node-returns-in-Global t c = rw (c.in-Global.is, of_global) refl

pub read_node-returns-in-Lambda : goal.read_node-returns-in-Lambda
read_node-returns-in-Lambda t c = rw (c.in-Lambda.is, of_lambda) c.read_one.ensures

pub read_node-returns-in-If : goal.read_node-returns-in-If
read_node-returns-in-If t c = rw (c.in-If.is, of_if, sym c.get.ensures, sym c.get-in-If.ensures, sym c.get-in-If-2.ensures) c.read_choice.ensures

pub read_node-returns-in-Let : goal.read_node-returns-in-Let
read_node-returns-in-Let t c = rw (c.in-Let.is, of_let, sym c.get-in-Let.ensures, sym c.get-in-Let-2.ensures) c.read_region.ensures

pub read_node-returns-in-Letrec : goal.read_node-returns-in-Letrec
read_node-returns-in-Letrec t c = rw (c.in-Letrec.is, of_letrec, sym c.as_slice.ensures, sym c.get-in-Letrec.ensures) c.read_regions.ensures

pub read_node-returns-in-Begin : goal.read_node-returns-in-Begin
read_node-returns-in-Begin t c = rw (c.in-Begin.is, of_begin, sym c.as_slice-in-Begin.ensures) c.read_each.ensures

pub read_node-returns-in-SetGlobal : goal.read_node-returns-in-SetGlobal
read_node-returns-in-SetGlobal t c = rw (c.in-SetGlobal.is, of_set, sym c.get-in-SetGlobal.ensures) c.read_expr.ensures

pub read_node-returns-in_ok-see-in-SetLocal : goal.read_node-returns-in_ok-see-in-SetLocal
read_node-returns-in_ok-see-in-SetLocal t c = rw (c.in-SetLocal.is, of_set_local, sym c.in_ok-see-in-SetLocal.ensures, sym c.get-in-SetLocal.ensures) c.read_expr-in-SetLocal.ensures

pub read_node-returns-in-Case : goal.read_node-returns-in-Case
read_node-returns-in-Case t c = rw (c.in-Case.is, of_case, sym c.get-in-Case.ensures, sym c.as_slice-in-Case.ensures, sym c.get-in-Case-2.ensures) c.read_cases.ensures

pub read_node-returns-in-Call : goal.read_node-returns-in-Call
read_node-returns-in-Call t c = rw (c.in-Call.is, of_call, sym c.get-in-Call.ensures, sym c.as_slice-in-Call.ensures) c.read_operation.ensures

pub read_node-returns-in-ProperCall : goal.read_node-returns-in-ProperCall
read_node-returns-in-ProperCall t c = rw (c.in-ProperCall.is, of_proper, sym c.get-in-ProperCall.ensures, sym c.as_slice-in-ProperCall.ensures) c.read_operation-in-ProperCall.ensures

pub read_node-returns-in-Primitive : goal.read_node-returns-in-Primitive
read_node-returns-in-Primitive t c = rw (c.in-Primitive.is, of_primitive, sym c.as_slice-in-Primitive.ensures) c.read_each-in-Primitive.ensures
