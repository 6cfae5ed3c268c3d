use Rattle.std.proofs.Common.{sym, ap, ◌∙◌, arith}
use Rattle.ps_types.specs.declared.types.Ty.TheVariants.{Proc}
use Rattle.ps_unify.proofs.SearchesTell.{told_in_parameters, told_of_answer}
use Rattle.ps_unify.proofs.searching.+searching.Goals as goal

pub search-returns-in-Found : goal.search-returns-in-Found
search-returns-in-Found t c = told_in_parameters c.args.s.now c.args.variable c.args.t.now c.head.result.now c.head.ensures.same c.as_slice.result.now c.in-Proc.answer
    (c.in-Proc.is ∙ ap (λ z. Proc z c.in-Proc.answer) (sym c.as_slice.ensures)) c.args.room c.in-Found.ensures.told

pub search-returns-in-Left : goal.search-returns-in-Left
search-returns-in-Left t c = told_of_answer c.args.s.now c.args.variable c.args.t.now c.head.result.now c.head.ensures.same c.as_slice.result.now c.get-in-Left.result.now
    (c.in-Proc.is ∙ (λ i. Proc (sym c.as_slice.ensures i) (sym c.get-in-Left.ensures i))) c.args.room c.in-Left.left (omega (arith, c.if-room-eq0.false))
    c.in-Left.ensures.told.0 c.in-Left.ensures.told.1 c.search-in-Left.result c.search-in-Left.ensures
