use Rattle.std.proofs.Common.{◌≡◌, ◌+◌, ◌<◌, List, length, drop, get_or, ap, ◌∙◌, arith}
use Rattle.ps_plain.specs.declared.program.Write.{Write}
use Rattle.c_emit.specs.InsideCode.{writes_size, writes_labels}
use Rattle.c_emit.proofs.PartsMakeCode.{next-member, write-more}
use Rattle.c_emit.proofs.unit.build_function.Goals as goal

pub loop-write-preserved : goal.loop-write-preserved
loop-write-preserved c =
    let es = c.args.procedure.now.writes in
    let i = c.loop-write.write-index in
    let e = c.write-item.result in
    let items = c.as_slice-write-items.ensures in
    let lt : i < length es = omega (arith, ap (λ (l : List Write). length l) items) in
    let is : e ≡ get_or es i e = c.write-item.is ∙ ap (λ (l : List Write). get_or l i e) items in
    let f = next-member es i e lt is in
    record {
      size = omega (arith, c.loop-write.invariant.size, ap writes_size f, c.in_ok-build_write.ensures.variables);
      labels = omega (arith, c.loop-write.invariant.labels, ap writes_labels f, c.in_ok-build_write.ensures.labels);
      statements = write-more (drop i es) (drop (i + 1) es) e f _ _ _ _ _ _ _ c.loop-write.invariant.statements c.in_ok-build_write.ensures.statements c.in_ok-build_write.ensures.variables c.in_ok-build_write.ensures.labels;
    }

pub build_write-requires-clause-variables : goal.build_write-requires-clause-variables
build_write-requires-clause-variables c =
    let es = c.args.procedure.now.writes in
    let i = c.loop-write.write-index in
    let e = c.write-item.result in
    let items = c.as_slice-write-items.ensures in
    let lt : i < length es = omega (arith, ap (λ (l : List Write). length l) items) in
    let f = next-member es i e lt (c.write-item.is ∙ ap (λ (l : List Write). get_or l i e) items) in
    omega (arith, c.loop-write.invariant.size, ap writes_size f, c.requires.variables)

pub build_write-requires-clause-labels : goal.build_write-requires-clause-labels
build_write-requires-clause-labels c =
    let es = c.args.procedure.now.writes in
    let i = c.loop-write.write-index in
    let e = c.write-item.result in
    let items = c.as_slice-write-items.ensures in
    let lt : i < length es = omega (arith, ap (λ (l : List Write). length l) items) in
    let f = next-member es i e lt (c.write-item.is ∙ ap (λ (l : List Write). get_or l i e) items) in
    omega (arith, c.loop-write.invariant.labels, ap writes_labels f, c.requires.labels)

pub build_expr-requires-clause-variables : goal.build_expr-requires-clause-variables
build_expr-requires-clause-variables c = omega (arith, c.loop-write.invariant.size, c.requires.variables)

pub build_expr-requires-clause-labels : goal.build_expr-requires-clause-labels
build_expr-requires-clause-labels c = omega (arith, c.loop-write.invariant.labels, c.requires.labels)
