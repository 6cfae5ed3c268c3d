use Rattle.std.proofs.Common.{◌+◌, List, length, map, ap, refl, sym, ◌∙◌, suc}
use Rattle.ps_datum.specs.declared.datum.Datum.{Datum}
use Rattle.ps_prims.specs.Cells.{cells_in}
use Rattle.ps_meaning.specs.Literals.{laid, lay_parts}
use Rattle.ps_static_eval.specs.InsideLaying.{left_after}
use Rattle.ps_static_eval.proofs.LiteralsArePaid.{text_paid, vector_paid, vector_unpaid, each_paid, each_unpaid, all_paid}
use Rattle.ps_static_eval.proofs.literals.+paying.Goals as goal

pub pay-returns-in-Text : goal.pay-returns-in-Text
pay-returns-in-Text t c = λ n. text_paid c.args.d.now c.in-Text.bytes n c.len.result c.args.cells c.take-in-Text.result c.in-Text.is c.len.ensures c.take-in-Text.ensures

pub pay-returns-in-Some : goal.pay-returns-in-Some
pay-returns-in-Some t c = λ n.
    vector_paid c.args.d.now c.in-Vector.parts n c.len-in-Vector.result c.args.cells c.in-Some.left c.pay_each.result c.in-Vector.is c.len-in-Vector.ensures (sym c.in-Some.is ∙ c.take-in-Vector.ensures)
    (c.pay_each.ensures (suc n) ∙ ap (λ (ds : List Datum). left_after (cells_in (lay_parts (map laid ds) (suc n)).blocks) c.in-Some.left) c.as_slice.ensures)

pub pay-returns-in-None : goal.pay-returns-in-None
pay-returns-in-None t c = λ n. vector_unpaid c.args.d.now c.in-Vector.parts n c.len-in-Vector.result c.args.cells c.in-Vector.is c.len-in-Vector.ensures (sym c.in-None.is ∙ c.take-in-Vector.ensures)

pub pay_each-loop-part-init : goal.pay_each-loop-part-init
pay_each-loop-part-init t c = λ n. (n, refl)

pub pay_each-loop-part-preserved : goal.pay_each-loop-part-preserved
pay_each-loop-part-preserved t c = λ n.
    let h = c.loop-part.invariant n in
    (h.0 + length (laid c.part-item.result h.0).blocks, each_paid c.args.parts.now c.loop-part.part-index h.0 c.part-item.result c.loop-part.left c.in-Some.rest c.loop-part-test.true c.part-item.is (sym c.in-Some.is ∙ c.pay.ensures h.0) ∙ h.1)

pub pay_each-returns-in-None : goal.pay_each-returns-in-None
pay_each-returns-in-None t c = λ n.
    let h = c.loop-part.invariant n in
    each_unpaid c.args.parts.now c.loop-part.part-index h.0 c.part-item.result c.loop-part.left c.loop-part-test.true c.part-item.is (sym c.in-None.is ∙ c.pay.ensures h.0) ∙ h.1

pub pay_each-returns : goal.pay_each-returns
pay_each-returns t c = λ n.
    let h = c.loop-part.invariant n in
    all_paid c.args.parts.now c.loop-part.part-index h.0 c.loop-part.left c.loop-part-test.false ∙ h.1
