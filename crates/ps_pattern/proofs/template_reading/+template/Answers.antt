use Rattle.std.proofs.Common.{rules, ap, sym, ◌∙◌, map}
use Rattle.ps_pattern.specs.Identifiers.{starts, dots_at}
use Rattle.ps_pattern.proofs.Rests.{got}
use Rattle.ps_pattern.proofs.TemplateRows.{misplaced, passed_dots, refused, grown}
use Rattle.ps_pattern.proofs.template_reading.+template.Goals.{read_parts-then-is_dots+else-not-may, read_parts-else-is_dots+in_ok-read_part+in-Some+in_ok-push-in-Some}
use Rattle.ps_pattern.proofs.TemplateArms.{list_arm, vector_arm, dotted_arm}
use Rattle.ps_pattern.proofs.template_reading.+template.Goals as goal

pub read_template-returns-in_ok-read_parts-in-List : goal.read_template-returns-in_ok-read_parts-in-List
read_template-returns-in_ok-read_parts-in-List t c = list_arm c.args.dots c.args.keys.now c.args.depths.now c.args.around c.args.form.now c.in-List.forms c.as_slice-in-List.result.now c.in_ok-read_parts-in-List.field-0 c.list_of.result c.in-List.is c.as_slice-in-List.ensures c.in_ok-read_parts-in-List.ensures c.list_of.ensures

pub read_template-returns-in_ok-read_parts-in-Vector : goal.read_template-returns-in_ok-read_parts-in-Vector
read_template-returns-in_ok-read_parts-in-Vector t c = vector_arm c.args.dots c.args.keys.now c.args.depths.now c.args.around c.args.form.now c.in-Vector.forms c.as_slice-in-Vector.result.now c.in_ok-read_parts-in-Vector.field-0 c.vector_of.result c.in-Vector.is c.as_slice-in-Vector.ensures c.in_ok-read_parts-in-Vector.ensures c.vector_of.ensures

pub read_template-returns-in_ok-last-in-Some : goal.read_template-returns-in_ok-last-in-Some
read_template-returns-in_ok-last-in-Some t c = dotted_arm c.args.dots c.args.keys.now c.args.depths.now c.args.around c.args.form.now c.in-Dotted.forms c.as_slice-in-Dotted.result.now c.in-Dotted.last c.get.result.now c.in-Some.parts c.in_ok-last-in-Some.last c.dotted_of.result c.in-Dotted.is c.as_slice-in-Dotted.ensures c.get.ensures (search rules) c.in_ok-last-in-Some.ensures c.dotted_of.ensures

pub read_parts-returns-then-not-may : goal.read_parts-returns-then-not-may
read_parts-returns-then-not-may t c = sym (misplaced c.args.dots c.args.keys.now c.args.depths.now c.args.around c.args.forms.now c.loop-i.i c.index-forms-i.result c.loop-i.parts c.loop-i.may _ (got c.args.forms.now c.loop-i.i c.index-forms-i.result c.loop-i-test.true c.index-forms-i.is) (sym c.is_dots.ensures ∙ c.if-is_dots.true) c.loop-i.invariant (search rules))

pub read_parts-returns-in-None : goal.read_parts-returns-in-None
read_parts-returns-in-None t c = sym (refused c.args.dots c.args.keys.now c.args.depths.now c.args.around c.args.forms.now c.loop-i.i c.index-forms-i.result c.loop-i.parts c.loop-i.may c.begins_in_dots-each.result _ (got c.args.forms.now c.loop-i.i c.index-forms-i.result c.loop-i-test.true c.index-forms-i.is) (sym c.is_dots.ensures ∙ c.if-is_dots.false) c.loop-i.invariant (c.begins_in_dots-each.ensures ∙ ap (λ z. starts (map (dots_at c.args.dots) z)) c.after.ensures) (sym c.in_ok-read_part.ensures ∙ c.in-None.is))

pub read_parts-loop-i-preserved : goal.read_parts-loop-i-preserved
read_parts-loop-i-preserved t c = elim c.if-is_dots.branch [
  | read_parts-then-is_dots+else-not-may w ↦ passed_dots c.args.dots c.args.keys.now c.args.depths.now c.args.around c.args.forms.now c.loop-i.i c.index-forms-i.result c.loop-i.parts c.if-is_dots.parts c.loop-i.may c.if-is_dots.may _ (got c.args.forms.now c.loop-i.i c.index-forms-i.result c.loop-i-test.true c.index-forms-i.is) (sym c.is_dots.ensures ∙ w.if-is_dots.true) c.loop-i.invariant (search rules) (search rules) (search rules)
  | read_parts-else-is_dots+in_ok-read_part+in-Some+in_ok-push-in-Some w ↦ grown c.args.dots c.args.keys.now c.args.depths.now c.args.around c.args.forms.now c.loop-i.i c.index-forms-i.result c.loop-i.parts c.if-is_dots.parts w.in-Some.part c.loop-i.may c.if-is_dots.may w.begins_in_dots-each.result _ (got c.args.forms.now c.loop-i.i c.index-forms-i.result c.loop-i-test.true c.index-forms-i.is) (sym c.is_dots.ensures ∙ w.if-is_dots.false) c.loop-i.invariant (w.begins_in_dots-each.ensures ∙ ap (λ z. starts (map (dots_at c.args.dots) z)) w.after.ensures) (sym w.in_ok-read_part.ensures ∙ w.in-Some.is) (search rules) (search rules)
]
