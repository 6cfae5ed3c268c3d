use Rattle.std.proofs.Common.{◌∙◌, ◌++◌, ap, sym, map}
use Rattle.ps_pattern.specs.Surveys.{deep, deep_in, all_deep}
use Rattle.ps_pattern.proofs.Rests.{got}
use Rattle.ps_pattern.proofs.Gathering.{one_more, appended_is, appended_then, deep_list, deep_vector, deep_dotted}
use Rattle.ps_pattern.proofs.surveys.+gathering.Goals as goal

pub gather-returns-in-List : goal.gather-returns-in-List
gather-returns-in-List t c = appended_is _ _ _ _ _ (ap (λ ps. all_deep (map (deep_in c.args.depths.now) ps)) c.as_slice.ensures ∙ sym (ap (deep c.args.depths.now) c.in-List.is ∙ deep_list c.args.depths.now c.in-List.parts)) c.gather_all.ensures

pub gather-returns-in-Vector : goal.gather-returns-in-Vector
gather-returns-in-Vector t c = appended_is _ _ _ _ _ (ap (λ ps. all_deep (map (deep_in c.args.depths.now) ps)) c.as_slice-in-Vector.ensures ∙ sym (ap (deep c.args.depths.now) c.in-Vector.is ∙ deep_vector c.args.depths.now c.in-Vector.parts)) c.gather_all-in-Vector.ensures

pub gather_all-loop-part-preserved : goal.gather_all-loop-part-preserved
gather_all-loop-part-preserved t c = one_more (deep_in c.args.depths.now) c.args.parts.now c.loop-part.part-index c.part-item.result c.args.out.now c.loop-part.out c.gather_part.new.out (got c.args.parts.now c.loop-part.part-index c.part-item.result c.loop-part-test.true c.part-item.is) c.loop-part.invariant c.in_ok-gather_part.ensures

pub gather-returns-in_ok-gather_all-in-Dotted : goal.gather-returns-in_ok-gather_all-in-Dotted
gather-returns-in_ok-gather_all-in-Dotted t c =
    let parts_are = ap (λ ps. all_deep (map (deep_in c.args.depths.now) ps)) c.as_slice-in-Dotted.ensures in
    let last_is = ap (deep c.args.depths.now) c.get.ensures in
    appended_then _ _ c.gather_all-in-Dotted.new.out _ (all_deep (map (deep_in c.args.depths.now) c.as_slice-in-Dotted.result.now)) (deep c.args.depths.now c.get.result.now) (deep c.args.depths.now c.args.template.now) c.in_ok-gather_all-in-Dotted.ensures
    (ap (deep c.args.depths.now) c.in-Dotted.is ∙ deep_dotted c.args.depths.now c.in-Dotted.parts c.in-Dotted.last ∙ ap (λ z. z ++ deep c.args.depths.now c.in-Dotted.last) (sym parts_are) ∙ ap (λ z. all_deep (map (deep_in c.args.depths.now) c.as_slice-in-Dotted.result.now) ++ z) (sym last_is))
    c.gather.ensures
