use Rattle.std.proofs.Common.{rules, ◌≡◌, ◌+◌, ◌∙◌, ap, sym, subst, map, take, Some, ℕ}
use Rattle.std.specs.Prelude.{Err}
use Rattle.ps_pattern.specs.Matching.{list_of}
use Rattle.ps_pattern.specs.Filling.{vector_of}
use Rattle.ps_pattern.proofs.Fillings.{made_parts, filled_list, filled_vector, wrapped_fault, wrapped_made, list_size, vector_size}
use Rattle.std.specs.Option.{option_map}
use Rattle.std.specs.List.{range_with_len}
use Rattle.ps_pattern.specs.Filling.{filled, filled_part, in_order, sizes, size, single, at_step, Fills}
use Rattle.ps_pattern.proofs.Orders.{Part, kept, fault, single_made, single_fault, got_map, got_range, whole_range}
use Rattle.ps_pattern.specs.Filling.{joined_option}
use Rattle.ps_pattern.proofs.Fillings.{filled_dotted}
use Rattle.ps_pattern.proofs.Joins.{front_fault, last_fault, joined_made}
use Rattle.ps_pattern.proofs.filling.+filling.Goals as goal

pub fill_parts-returns-in-Err : goal.fill_parts-returns-in-Err
fill_parts-returns-in-Err t c =
    fault (map (λ p. filled_part c.args.stamp c.args.place p c.args.binds.now) c.args.parts.now) c.loop-part.part-index (filled_part c.args.stamp c.args.place c.part-item.result c.args.binds.now) c.loop-part.forms c.loop-part.left c.args.left c.in-Err.fault
    (got_map (λ p. filled_part c.args.stamp c.args.place p c.args.binds.now) c.args.parts.now c.loop-part.part-index c.part-item.result c.loop-part-test.true c.part-item.is) c.loop-part.invariant c.in-Err.ensures

pub fill_parts-loop-part-preserved : goal.fill_parts-loop-part-preserved
fill_parts-loop-part-preserved t c =
    kept (map (λ p. filled_part c.args.stamp c.args.place p c.args.binds.now) c.args.parts.now) c.loop-part.part-index (filled_part c.args.stamp c.args.place c.part-item.result c.args.binds.now) c.loop-part.forms c.in-Ok.more.made c.append.new.self c.loop-part.left c.args.left c.in-Ok.more.left
    (got_map (λ p. filled_part c.args.stamp c.args.place p c.args.binds.now) c.args.parts.now c.loop-part.part-index c.part-item.result c.loop-part-test.true c.part-item.is) c.loop-part.invariant c.in-Ok.ensures (search rules)

pub fill_steps-returns-in-Err : goal.fill_steps-returns-in-Err
fill_steps-returns-in-Err t c =
    let h : (ℕ → Part) = (λ k. option_map single (filled c.args.stamp c.args.place c.args.t.now (at_step c.args.binds.now k))) in
    let here : c.in_ok-here.here ≡ at_step c.args.binds.now c.loop-i.i = search rules in
    fault (map h (range_with_len 0 c.args.n)) c.loop-i.i (h c.loop-i.i) c.loop-i.forms c.loop-i.left c.args.left c.in-Err.fault (got_range h c.args.n c.loop-i.i c.loop-i-test.true) c.loop-i.invariant
    (subst (λ b. Fills sizes (option_map single (filled c.args.stamp c.args.place c.args.t.now b)) c.loop-i.left (Err c.in-Err.fault)) here (single_fault _ _ c.in-Err.fault c.in-Err.ensures))

pub fill_steps-loop-i-preserved : goal.fill_steps-loop-i-preserved
fill_steps-loop-i-preserved t c =
    let h : (ℕ → Part) = (λ k. option_map single (filled c.args.stamp c.args.place c.args.t.now (at_step c.args.binds.now k))) in
    let here : c.in_ok-here.here ≡ at_step c.args.binds.now c.loop-i.i = search rules in
    let ok : (filled c.args.stamp c.args.place c.args.t.now c.in_ok-here.here ≡ Some c.in-Ok.more.made) × (c.in-Ok.more.left + size c.in-Ok.more.made ≡ c.loop-i.left) = c.in-Ok.ensures in
    kept (map h (range_with_len 0 c.args.n)) c.loop-i.i (h c.loop-i.i) c.loop-i.forms (single c.in-Ok.more.made) c.push.new.self c.loop-i.left c.args.left c.in-Ok.more.left (got_range h c.args.n c.loop-i.i c.loop-i-test.true) c.loop-i.invariant
    (single_made (filled c.args.stamp c.args.place c.args.t.now (at_step c.args.binds.now c.loop-i.i)) c.in-Ok.more.made c.in-Ok.more.left c.loop-i.left (ap (filled c.args.stamp c.args.place c.args.t.now) (sym here) ∙ ok.0, ok.1)) c.in_ok-push-in-Ok.ensures.ok

pub fill_steps-returns : goal.fill_steps-returns
fill_steps-returns t c =
    let h : (ℕ → Part) = (λ k. option_map single (filled c.args.stamp c.args.place c.args.t.now (at_step c.args.binds.now k))) in
    let end : c.args.n ≡ c.loop-i.i = search rules in
    (ap in_order (sym (whole_range h c.args.n)) ∙ ap (λ k. in_order (take k (map h (range_with_len 0 c.args.n)))) end ∙ c.loop-i.invariant.0, c.loop-i.invariant.1)

pub fill-returns-in-Err : goal.fill-returns-in-Err
fill-returns-in-Err t c =
    let row : filled c.args.stamp c.args.place c.args.t.now c.args.binds.now ≡ option_map (list_of c.args.place) (made_parts c.args.stamp c.args.place c.args.binds.now c.as_slice-in-List.result.now) = ap (λ z. filled c.args.stamp c.args.place z c.args.binds.now) c.in-List.is ∙ filled_list c.args.stamp c.args.place c.args.binds.now c.in-List.parts ∙ ap (λ ps. option_map (list_of c.args.place) (made_parts c.args.stamp c.args.place c.args.binds.now ps)) (sym c.as_slice-in-List.ensures) in
    wrapped_fault (list_of c.args.place) (list_size c.args.place) (made_parts c.args.stamp c.args.place c.args.binds.now c.as_slice-in-List.result.now) _ c.args.left c.in-Err.fault row c.in-Err.ensures

pub fill-returns-in-Ok : goal.fill-returns-in-Ok
fill-returns-in-Ok t c =
    let row : filled c.args.stamp c.args.place c.args.t.now c.args.binds.now ≡ option_map (list_of c.args.place) (made_parts c.args.stamp c.args.place c.args.binds.now c.as_slice-in-List.result.now) = ap (λ z. filled c.args.stamp c.args.place z c.args.binds.now) c.in-List.is ∙ filled_list c.args.stamp c.args.place c.args.binds.now c.in-List.parts ∙ ap (λ ps. option_map (list_of c.args.place) (made_parts c.args.stamp c.args.place c.args.binds.now ps)) (sym c.as_slice-in-List.ensures) in
    wrapped_made (list_of c.args.place) (list_size c.args.place) (made_parts c.args.stamp c.args.place c.args.binds.now c.as_slice-in-List.result.now) _ c.in-Ok.built.made c.in-Ok.built.left c.args.left c.around_list.result row c.in-Ok.ensures c.around_list.ensures

pub fill-returns-in-Err-fill_parts : goal.fill-returns-in-Err-fill_parts
fill-returns-in-Err-fill_parts t c =
    let row : filled c.args.stamp c.args.place c.args.t.now c.args.binds.now ≡ option_map (vector_of c.args.place) (made_parts c.args.stamp c.args.place c.args.binds.now c.as_slice-in-Vector.result.now) = ap (λ z. filled c.args.stamp c.args.place z c.args.binds.now) c.in-Vector.is ∙ filled_vector c.args.stamp c.args.place c.args.binds.now c.in-Vector.parts ∙ ap (λ ps. option_map (vector_of c.args.place) (made_parts c.args.stamp c.args.place c.args.binds.now ps)) (sym c.as_slice-in-Vector.ensures) in
    wrapped_fault (vector_of c.args.place) (vector_size c.args.place) (made_parts c.args.stamp c.args.place c.args.binds.now c.as_slice-in-Vector.result.now) _ c.args.left c.in-Err-fill_parts.fault row c.in-Err-fill_parts.ensures

pub fill-returns-in-Ok-fill_parts : goal.fill-returns-in-Ok-fill_parts
fill-returns-in-Ok-fill_parts t c =
    let row : filled c.args.stamp c.args.place c.args.t.now c.args.binds.now ≡ option_map (vector_of c.args.place) (made_parts c.args.stamp c.args.place c.args.binds.now c.as_slice-in-Vector.result.now) = ap (λ z. filled c.args.stamp c.args.place z c.args.binds.now) c.in-Vector.is ∙ filled_vector c.args.stamp c.args.place c.args.binds.now c.in-Vector.parts ∙ ap (λ ps. option_map (vector_of c.args.place) (made_parts c.args.stamp c.args.place c.args.binds.now ps)) (sym c.as_slice-in-Vector.ensures) in
    wrapped_made (vector_of c.args.place) (vector_size c.args.place) (made_parts c.args.stamp c.args.place c.args.binds.now c.as_slice-in-Vector.result.now) _ c.in-Ok-fill_parts.built.made c.in-Ok-fill_parts.built.left c.args.left c.around_vector.result row c.in-Ok-fill_parts.ensures c.around_vector.ensures

pub fill-returns-in-Err-fill_parts-2 : goal.fill-returns-in-Err-fill_parts-2
fill-returns-in-Err-fill_parts-2 t c =
    let row : filled c.args.stamp c.args.place c.args.t.now c.args.binds.now ≡ joined_option c.args.place (made_parts c.args.stamp c.args.place c.args.binds.now c.as_slice-in-Dotted.result.now) (filled c.args.stamp c.args.place c.in-Dotted.last c.args.binds.now) = ap (λ z. filled c.args.stamp c.args.place z c.args.binds.now) c.in-Dotted.is ∙ filled_dotted c.args.stamp c.args.place c.args.binds.now c.in-Dotted.parts c.in-Dotted.last ∙ ap (λ ps. joined_option c.args.place (made_parts c.args.stamp c.args.place c.args.binds.now ps) (filled c.args.stamp c.args.place c.in-Dotted.last c.args.binds.now)) (sym c.as_slice-in-Dotted.ensures) in
    front_fault c.args.place (made_parts c.args.stamp c.args.place c.args.binds.now c.as_slice-in-Dotted.result.now) (filled c.args.stamp c.args.place c.in-Dotted.last c.args.binds.now) _ c.args.left c.in-Err-fill_parts-2.fault row c.in-Err-fill_parts-2.ensures

pub fill-returns-in-Err-fill : goal.fill-returns-in-Err-fill
fill-returns-in-Err-fill t c =
    let row : filled c.args.stamp c.args.place c.args.t.now c.args.binds.now ≡ joined_option c.args.place (made_parts c.args.stamp c.args.place c.args.binds.now c.as_slice-in-Dotted.result.now) (filled c.args.stamp c.args.place c.in-Dotted.last c.args.binds.now) = ap (λ z. filled c.args.stamp c.args.place z c.args.binds.now) c.in-Dotted.is ∙ filled_dotted c.args.stamp c.args.place c.args.binds.now c.in-Dotted.parts c.in-Dotted.last ∙ ap (λ ps. joined_option c.args.place (made_parts c.args.stamp c.args.place c.args.binds.now ps) (filled c.args.stamp c.args.place c.in-Dotted.last c.args.binds.now)) (sym c.as_slice-in-Dotted.ensures) in
    let whole : filled c.args.stamp c.args.place c.args.t.now c.args.binds.now ≡ joined_option c.args.place (made_parts c.args.stamp c.args.place c.args.binds.now c.as_slice-in-Dotted.result.now) (filled c.args.stamp c.args.place c.get.result.now c.args.binds.now) = row ∙ ap (λ z. joined_option c.args.place (made_parts c.args.stamp c.args.place c.args.binds.now c.as_slice-in-Dotted.result.now) (filled c.args.stamp c.args.place z c.args.binds.now)) (sym c.get.ensures) in
    last_fault c.args.place c.in-Ok-fill_parts-2.built.made (made_parts c.args.stamp c.args.place c.args.binds.now c.as_slice-in-Dotted.result.now) (filled c.args.stamp c.args.place c.get.result.now c.args.binds.now) _ c.in-Ok-fill_parts-2.built.left c.args.left c.in-Err-fill.fault whole c.in-Ok-fill_parts-2.ensures c.in-Err-fill.ensures

pub fill-returns-in-Ok-fill : goal.fill-returns-in-Ok-fill
fill-returns-in-Ok-fill t c =
    let row : filled c.args.stamp c.args.place c.args.t.now c.args.binds.now ≡ joined_option c.args.place (made_parts c.args.stamp c.args.place c.args.binds.now c.as_slice-in-Dotted.result.now) (filled c.args.stamp c.args.place c.in-Dotted.last c.args.binds.now) = ap (λ z. filled c.args.stamp c.args.place z c.args.binds.now) c.in-Dotted.is ∙ filled_dotted c.args.stamp c.args.place c.args.binds.now c.in-Dotted.parts c.in-Dotted.last ∙ ap (λ ps. joined_option c.args.place (made_parts c.args.stamp c.args.place c.args.binds.now ps) (filled c.args.stamp c.args.place c.in-Dotted.last c.args.binds.now)) (sym c.as_slice-in-Dotted.ensures) in
    let whole : filled c.args.stamp c.args.place c.args.t.now c.args.binds.now ≡ joined_option c.args.place (made_parts c.args.stamp c.args.place c.args.binds.now c.as_slice-in-Dotted.result.now) (filled c.args.stamp c.args.place c.get.result.now c.args.binds.now) = row ∙ ap (λ z. joined_option c.args.place (made_parts c.args.stamp c.args.place c.args.binds.now c.as_slice-in-Dotted.result.now) (filled c.args.stamp c.args.place z c.args.binds.now)) (sym c.get.ensures) in
    joined_made c.args.place c.in-Ok-fill_parts-2.built.made c.in-Ok-fill.end.made (made_parts c.args.stamp c.args.place c.args.binds.now c.as_slice-in-Dotted.result.now) (filled c.args.stamp c.args.place c.get.result.now c.args.binds.now) _ c.in-Ok-fill.end.left c.in-Ok-fill_parts-2.built.left c.args.left c.join.result whole c.in-Ok-fill_parts-2.ensures c.in-Ok-fill.ensures c.join.ensures
