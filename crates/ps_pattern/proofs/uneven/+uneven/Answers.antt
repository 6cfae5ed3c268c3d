use Rattle.std.proofs.Common.{rules, ◌≡◌, ◌∙◌, ap, sym, map, take, ℕ, true, false}
use Rattle.std.specs.Prelude.{is_none}
use Rattle.std.specs.Option.{option_map}
use Rattle.std.specs.List.{range_with_len}
use Rattle.ps_pattern.specs.Matching.{list_of}
use Rattle.ps_pattern.specs.Filling.{filled, filled_part, in_order, single, at_step, vector_of, joined_option}
use Rattle.ps_pattern.proofs.Orders.{Part, still_some, found_none, single_none, got_map, got_range, whole_range}
use Rattle.ps_pattern.proofs.Fillings.{made_parts, filled_list, filled_vector, filled_dotted, wrap_none, joined_none, joined_last, same_answer}
use Rattle.ps_pattern.proofs.uneven.+uneven.Goals as goal

pub is_uneven-returns-in-List : goal.is_uneven-returns-in-List
is_uneven-returns-in-List t c =
    let row : filled c.args.stamp c.args.place c.args.t.now c.args.binds.now ≡ option_map (list_of c.args.place) (made_parts c.args.stamp c.args.place c.args.binds.now c.as_slice.result.now) = ap (λ z. filled c.args.stamp c.args.place z c.args.binds.now) c.in-List.is ∙ filled_list c.args.stamp c.args.place c.args.binds.now c.in-List.parts ∙ ap (λ ps. option_map (list_of c.args.place) (made_parts c.args.stamp c.args.place c.args.binds.now ps)) (sym c.as_slice.ensures) in
    same_answer c.some_uneven.result (is_none (made_parts c.args.stamp c.args.place c.args.binds.now c.as_slice.result.now)) _ (sym (ap is_none row ∙ wrap_none (list_of c.args.place) (made_parts c.args.stamp c.args.place c.args.binds.now c.as_slice.result.now))) c.some_uneven.ensures

pub is_uneven-returns-in-Vector : goal.is_uneven-returns-in-Vector
is_uneven-returns-in-Vector t c =
    let row : filled c.args.stamp c.args.place c.args.t.now c.args.binds.now ≡ option_map (vector_of c.args.place) (made_parts c.args.stamp c.args.place c.args.binds.now c.as_slice-in-Vector.result.now) = ap (λ z. filled c.args.stamp c.args.place z c.args.binds.now) c.in-Vector.is ∙ filled_vector c.args.stamp c.args.place c.args.binds.now c.in-Vector.parts ∙ ap (λ ps. option_map (vector_of c.args.place) (made_parts c.args.stamp c.args.place c.args.binds.now ps)) (sym c.as_slice-in-Vector.ensures) in
    same_answer c.some_uneven-in-Vector.result (is_none (made_parts c.args.stamp c.args.place c.args.binds.now c.as_slice-in-Vector.result.now)) _ (sym (ap is_none row ∙ wrap_none (vector_of c.args.place) (made_parts c.args.stamp c.args.place c.args.binds.now c.as_slice-in-Vector.result.now))) c.some_uneven-in-Vector.ensures

pub is_uneven-returns-then-branch : goal.is_uneven-returns-then-branch
is_uneven-returns-then-branch t c =
    let row : filled c.args.stamp c.args.place c.args.t.now c.args.binds.now ≡ joined_option c.args.place (made_parts c.args.stamp c.args.place c.args.binds.now c.as_slice-in-Dotted.result.now) (filled c.args.stamp c.args.place c.in-Dotted.last c.args.binds.now) = ap (λ z. filled c.args.stamp c.args.place z c.args.binds.now) c.in-Dotted.is ∙ filled_dotted c.args.stamp c.args.place c.args.binds.now c.in-Dotted.parts c.in-Dotted.last ∙ ap (λ ps. joined_option c.args.place (made_parts c.args.stamp c.args.place c.args.binds.now ps) (filled c.args.stamp c.args.place c.in-Dotted.last c.args.binds.now)) (sym c.as_slice-in-Dotted.ensures) in
    let e : is_none (made_parts c.args.stamp c.args.place c.args.binds.now c.as_slice-in-Dotted.result.now) ≡ true = search rules in
    sym (ap is_none row ∙ joined_none c.args.place (made_parts c.args.stamp c.args.place c.args.binds.now c.as_slice-in-Dotted.result.now) (filled c.args.stamp c.args.place c.in-Dotted.last c.args.binds.now) e)

pub is_uneven-returns-else-branch : goal.is_uneven-returns-else-branch
is_uneven-returns-else-branch t c =
    let row : filled c.args.stamp c.args.place c.args.t.now c.args.binds.now ≡ joined_option c.args.place (made_parts c.args.stamp c.args.place c.args.binds.now c.as_slice-in-Dotted.result.now) (filled c.args.stamp c.args.place c.in-Dotted.last c.args.binds.now) = ap (λ z. filled c.args.stamp c.args.place z c.args.binds.now) c.in-Dotted.is ∙ filled_dotted c.args.stamp c.args.place c.args.binds.now c.in-Dotted.parts c.in-Dotted.last ∙ ap (λ ps. joined_option c.args.place (made_parts c.args.stamp c.args.place c.args.binds.now ps) (filled c.args.stamp c.args.place c.in-Dotted.last c.args.binds.now)) (sym c.as_slice-in-Dotted.ensures) in
    let e : is_none (made_parts c.args.stamp c.args.place c.args.binds.now c.as_slice-in-Dotted.result.now) ≡ false = search rules in
    let g : c.get.result.now ≡ c.in-Dotted.last = c.get.ensures in
    same_answer c.is_uneven.result (is_none (filled c.args.stamp c.args.place c.get.result.now c.args.binds.now)) _ (ap (λ z. is_none (filled c.args.stamp c.args.place z c.args.binds.now)) g ∙ sym (ap is_none row ∙ joined_last c.args.place (made_parts c.args.stamp c.args.place c.args.binds.now c.as_slice-in-Dotted.result.now) (filled c.args.stamp c.args.place c.in-Dotted.last c.args.binds.now) e)) c.is_uneven.ensures

pub some_step_uneven-returns-then-branch : goal.some_step_uneven-returns-then-branch
some_step_uneven-returns-then-branch t c =
    let h : (ℕ → Part) = (λ k. option_map single (filled c.args.stamp c.args.place c.args.t.now (at_step c.args.binds.now k))) in
    let e : is_none (filled c.args.stamp c.args.place c.args.t.now (at_step c.args.binds.now c.loop-i.i)) ≡ true = search rules in
    sym (found_none (map h (range_with_len 0 c.args.n)) c.loop-i.i (h c.loop-i.i) (got_range h c.args.n c.loop-i.i c.loop-i-test.true) (single_none (filled c.args.stamp c.args.place c.args.t.now (at_step c.args.binds.now c.loop-i.i)) ∙ e))

pub some_step_uneven-loop-i-preserved : goal.some_step_uneven-loop-i-preserved
some_step_uneven-loop-i-preserved t c =
    let h : (ℕ → Part) = (λ k. option_map single (filled c.args.stamp c.args.place c.args.t.now (at_step c.args.binds.now k))) in
    let e : is_none (filled c.args.stamp c.args.place c.args.t.now (at_step c.args.binds.now c.loop-i.i)) ≡ false = search rules in
    still_some (map h (range_with_len 0 c.args.n)) c.loop-i.i (h c.loop-i.i) (got_range h c.args.n c.loop-i.i c.loop-i-test.true) c.loop-i.invariant (single_none (filled c.args.stamp c.args.place c.args.t.now (at_step c.args.binds.now c.loop-i.i)) ∙ e)

pub some_step_uneven-returns : goal.some_step_uneven-returns
some_step_uneven-returns t c =
    let h : (ℕ → Part) = (λ k. option_map single (filled c.args.stamp c.args.place c.args.t.now (at_step c.args.binds.now k))) in
    let end : c.args.n ≡ c.loop-i.i = search rules in
    sym (ap (λ z. is_none (in_order z)) (sym (whole_range h c.args.n)) ∙ ap (λ k. is_none (in_order (take k (map h (range_with_len 0 c.args.n))))) end ∙ c.loop-i.invariant)

pub some_uneven-returns-then-branch : goal.some_uneven-returns-then-branch
some_uneven-returns-then-branch t c =
    let e : is_none (filled_part c.args.stamp c.args.place c.part-item.result c.args.binds.now) ≡ true = search rules in
    sym (found_none (map (λ p. filled_part c.args.stamp c.args.place p c.args.binds.now) c.args.parts.now) c.loop-part.part-index (filled_part c.args.stamp c.args.place c.part-item.result c.args.binds.now) (got_map (λ p. filled_part c.args.stamp c.args.place p c.args.binds.now) c.args.parts.now c.loop-part.part-index c.part-item.result c.loop-part-test.true c.part-item.is) e)

pub some_uneven-loop-part-preserved : goal.some_uneven-loop-part-preserved
some_uneven-loop-part-preserved t c =
    let e : is_none (filled_part c.args.stamp c.args.place c.part-item.result c.args.binds.now) ≡ false = search rules in
    still_some (map (λ p. filled_part c.args.stamp c.args.place p c.args.binds.now) c.args.parts.now) c.loop-part.part-index (filled_part c.args.stamp c.args.place c.part-item.result c.args.binds.now) (got_map (λ p. filled_part c.args.stamp c.args.place p c.args.binds.now) c.args.parts.now c.loop-part.part-index c.part-item.result c.loop-part-test.true c.part-item.is) c.loop-part.invariant e
