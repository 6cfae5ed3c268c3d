use Rattle.std.proofs.Common.{rules, ◌∙◌, ap, sym, ◌+◌}
use Rattle.ps_pattern.specs.Filling.{taken, size, sizes}
use Rattle.ps_hygiene.proofs.SizesAdd.{weighed, size_leaf, size_list, size_vector, size_dotted, none_stays, taken_twice, weighed_next}
use Rattle.ps_hygiene.proofs.Items.{got}
use Rattle.ps_hygiene.proofs.extents.+weigh.Goals as goal

pub weigh-returns-in-List : goal.weigh-returns-in-List
weigh-returns-in-List t c = weighed c.args.left c.take.result c.weigh_all.result c.in-List.parts c.as_slice.result.now (size c.args.form.now) c.take.ensures c.weigh_all.ensures c.as_slice.ensures (size_list c.args.form.now c.in-List.parts c.in-List.is)

pub weigh-returns-in-Vector : goal.weigh-returns-in-Vector
weigh-returns-in-Vector t c = weighed c.args.left c.take-in-Vector.result c.weigh_all-in-Vector.result c.in-Vector.parts c.as_slice-in-Vector.result.now (size c.args.form.now) c.take-in-Vector.ensures c.weigh_all-in-Vector.ensures c.as_slice-in-Vector.ensures (size_vector c.args.form.now c.in-Vector.parts c.in-Vector.is)

pub weigh-returns-in-Dotted : goal.weigh-returns-in-Dotted
weigh-returns-in-Dotted t c =
    c.weigh.ensures ∙ ap (λ z. taken z (size c.get.result.now)) (weighed c.args.left c.take-in-Dotted.result c.weigh_all-in-Dotted.result c.in-Dotted.parts c.as_slice-in-Dotted.result.now (1 + sizes c.in-Dotted.parts) c.take-in-Dotted.ensures c.weigh_all-in-Dotted.ensures c.as_slice-in-Dotted.ensures (search rules))
    ∙ taken_twice c.args.left (1 + sizes c.in-Dotted.parts) (size c.get.result.now) ∙ ap (λ z. taken c.args.left (1 + sizes c.in-Dotted.parts + size z)) c.get.ensures
    ∙ ap (taken c.args.left) (sym (size_dotted c.args.form.now c.in-Dotted.parts c.in-Dotted.last c.in-Dotted.is))

pub weigh_all-returns-in-None : goal.weigh_all-returns-in-None
weigh_all-returns-in-None t c = none_stays c.args.left c.loop-form.form-index c.args.forms.now (sym c.in-None.is ∙ c.loop-form.invariant)

pub weigh_all-loop-form-preserved : goal.weigh_all-loop-form-preserved
weigh_all-loop-form-preserved t c = c.weigh-left.ensures ∙ weighed_next c.args.left c.loop-form.left c.loop-form.form-index c.args.forms.now c.form-item.result (got c.args.forms.now c.loop-form.form-index c.form-item.result c.loop-form-test.true c.form-item.is) c.loop-form.invariant

pub weigh-returns-in-Boolean : goal.weigh-returns-in-Boolean
weigh-returns-in-Boolean t c = c.take-in-Boolean.ensures ∙ ap (taken c.args.left) (sym (size_leaf c.args.form.now c.in-Boolean.is))
