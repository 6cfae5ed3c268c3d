use Rattle.std.proofs.Common.{rules, ◌≡◌, ap, sym, ◌∙◌, Some, map}
use Rattle.ps_pattern.specs.Identifiers.{is_only, dots_at}
use Rattle.ps_pattern.specs.Reading.{row_of, in_front, lone_each}
use Rattle.ps_pattern.proofs.Rests.{got}
use Rattle.ps_pattern.proofs.PatternRows.{front_nothing, ends_none, ends_each, passed_none, passed}
use Rattle.ps_pattern.proofs.PatternArms.{list_arm, vector_arm, dotted_arm}
use Rattle.ps_pattern.proofs.reading.+reading.Goals as goal

pub read_pattern-returns-in_ok-row-in-List : goal.read_pattern-returns-in_ok-row-in-List
read_pattern-returns-in_ok-row-in-List t c = list_arm c.args.dots c.args.literals.now c.args.depth c.args.form.now c.in-List.forms c.as_slice-in-List.result.now c.in_ok-row-in-List.row c.list_of.result c.in-List.is c.as_slice-in-List.ensures c.in_ok-row-in-List.ensures c.list_of.ensures

pub read_pattern-returns-in_ok-row-in-Vector : goal.read_pattern-returns-in_ok-row-in-Vector
read_pattern-returns-in_ok-row-in-Vector t c = vector_arm c.args.dots c.args.literals.now c.args.depth c.args.form.now c.in-Vector.forms c.as_slice-in-Vector.result.now c.in_ok-row-in-Vector.row c.vector_of.result c.in-Vector.is c.as_slice-in-Vector.ensures c.in_ok-row-in-Vector.ensures c.vector_of.ensures

pub read_pattern-returns-in_ok-last-in-Some : goal.read_pattern-returns-in_ok-last-in-Some
read_pattern-returns-in_ok-last-in-Some t c = dotted_arm c.args.dots c.args.literals.now c.args.depth c.args.form.now c.in-Dotted.forms c.as_slice-in-Dotted.result.now c.in-Dotted.last c.get.result.now c.in-Some.row c.in_ok-last-in-Some.last c.dotted_of_row.result c.in-Dotted.is c.as_slice-in-Dotted.ensures c.get.ensures (search rules) c.in_ok-last-in-Some.ensures c.dotted_of_row.ensures

pub read_row-returns-in-None : goal.read_row-returns-in-None
read_row-returns-in-None t c = sym (ends_none c.args.dots c.args.literals.now c.args.depth c.in-Some.under (search rules) c.args.forms.now c.loop-i.i c.index-forms-i.result c.loop-i.ps c.loop-i.vars _ (got c.args.forms.now c.loop-i.i c.index-forms-i.result c.loop-i-test.true c.index-forms-i.is) (ap (λ z. is_only (map (dots_at c.args.dots) z)) (sym c.after.ensures) ∙ sym c.is_only_dots.ensures ∙ c.if-is_only_dots.true) c.loop-i.invariant (sym c.in_ok-read_pattern.ensures ∙ c.in-None.is))

pub read_row-returns-in_ok-end_in_each-in-Some-2 : goal.read_row-returns-in_ok-end_in_each-in-Some-2
read_row-returns-in_ok-end_in_each-in-Some-2 t c =
    let ps : c.ps.inside.items.items ≡ c.loop-i.ps = search rules in
    let vs : c.vars.inside.items.items ≡ c.loop-i.vars = search rules in
    let is : in_front c.ps.inside.items.items c.vars.inside.items.items (lone_each c.in-Some-2.each) ≡ in_front c.loop-i.ps c.loop-i.vars (lone_each c.in-Some-2.each) = ap (λ z. in_front z c.vars.inside.items.items (lone_each c.in-Some-2.each)) ps ∙ ap (λ z. in_front c.loop-i.ps z (lone_each c.in-Some-2.each)) vs in
    ap Some (c.in_ok-end_in_each-in-Some-2.ensures)
    ∙ sym (ends_each c.args.dots c.args.literals.now c.args.depth c.in-Some.under (search rules) c.args.forms.now c.loop-i.i c.index-forms-i.result c.loop-i.ps c.loop-i.vars _ c.in-Some-2.each (got c.args.forms.now c.loop-i.i c.index-forms-i.result c.loop-i-test.true c.index-forms-i.is) (ap (λ z. is_only (map (dots_at c.args.dots) z)) (sym c.after.ensures) ∙ sym c.is_only_dots.ensures ∙ c.if-is_only_dots.true) c.loop-i.invariant (sym c.in_ok-read_pattern.ensures ∙ c.in-Some-2.is))

pub read_row-returns-in-None-2 : goal.read_row-returns-in-None-2
read_row-returns-in-None-2 t c = sym (passed_none c.args.dots c.args.literals.now c.args.depth c.args.forms.now c.loop-i.i c.index-forms-i.result c.loop-i.ps c.loop-i.vars _ (got c.args.forms.now c.loop-i.i c.index-forms-i.result c.loop-i-test.true c.index-forms-i.is) (ap (λ z. is_only (map (dots_at c.args.dots) z)) (sym c.after.ensures) ∙ sym c.is_only_dots.ensures ∙ c.if-is_only_dots.false) c.loop-i.invariant (sym c.in_ok-read_pattern-2.ensures ∙ c.in-None-2.is))

pub read_row-loop-i-preserved : goal.read_row-loop-i-preserved
read_row-loop-i-preserved t c = passed c.args.dots c.args.literals.now c.args.depth c.args.forms.now c.loop-i.i c.index-forms-i.result c.loop-i.ps c.push.new.self c.loop-i.vars c.append.new.self _ c.in-Some-3.read (got c.args.forms.now c.loop-i.i c.index-forms-i.result c.loop-i-test.true c.index-forms-i.is) (ap (λ z. is_only (map (dots_at c.args.dots) z)) (sym c.after.ensures) ∙ sym c.is_only_dots.ensures ∙ c.if-is_only_dots.false) c.loop-i.invariant (sym c.in_ok-read_pattern-2.ensures ∙ c.in-Some-3.is) (search rules) (search rules)

pub read_row-loop-i-init : goal.read_row-loop-i-init
read_row-loop-i-init t c = search (rules, front_nothing (row_of c.args.dots c.args.literals.now c.args.depth c.args.forms.now))
