use Rattle.std.proofs.Common.{◌<◌, List, length, get_or, ap, ◌∙◌, arith}
use Rattle.ps_plain.specs.declared.program.Procedure.{Procedure}
use Rattle.c_emit.proofs.CodeIsSmall.{procedure-small, one-small}
use Rattle.c_emit.proofs.unit.build_unit.Goals as goal

pub build_function-requires-clause-variables : goal.build_function-requires-clause-variables
build_function-requires-clause-variables c =
    let items = c.as_slice-procedure-items.ensures in
    let i = c.loop-procedure.procedure-index in
    let lt : i < length c.args.program.now.procedures = omega (arith, ap (λ (l : List Procedure). length l) items) in
    let q = c.procedure-item.result in
    let small = one-small c.args.program.now.procedures i q lt (c.procedure-item.is ∙ ap (λ (l : List Procedure). get_or l i q) items) in
    omega (arith, (procedure-small q).0, small)

pub build_function-requires-clause-labels : goal.build_function-requires-clause-labels
build_function-requires-clause-labels c =
    let items = c.as_slice-procedure-items.ensures in
    let i = c.loop-procedure.procedure-index in
    let lt : i < length c.args.program.now.procedures = omega (arith, ap (λ (l : List Procedure). length l) items) in
    let q = c.procedure-item.result in
    let small = one-small c.args.program.now.procedures i q lt (c.procedure-item.is ∙ ap (λ (l : List Procedure). get_or l i q) items) in
    omega (arith, (procedure-small q).1, small)
