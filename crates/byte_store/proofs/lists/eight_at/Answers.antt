use Rattle.std.proofs.Common.{◌≡◌, ◌<◌, length, take, Some, sym, ap, ◌∙◌, subst, arith}
use Rattle.std.specs.Int.{w128}
use Rattle.std.proofs.lemmas.Int.{to_z-of_z}
use Rattle.std.proofs.lemmas.List.{take_more_set, length-set, take_all}
use Rattle.byte_store.specs.Operations.{and_then, inside, set, all_set}
use Rattle.byte_store.proofs.PlaceByPlace.{all_set_more, window_of_rest}
use Rattle.byte_store.proofs.lists.eight_at.Goals as goal

pub loop-i-preserved : goal.loop-i-preserved
loop-i-preserved c =
    let short : c.loop-i.i < length c.loop-i.word = omega (arith, c.loop-i-test.true, c.loop-i.invariant.1) in
    let inside : c.loop-i.i < length c.in_ok-rest.rest.now = omega (arith, c.loop-i-test.true, c.if-rest-lt8.false) in
    (all_set_more _ _ _ _ c.loop-i.invariant.0 c.in-Some.is inside ∙ ap Some (sym (take_more_set c.loop-i.word c.loop-i.i c.in-Some.byte short)), length-set _ _ _ ∙ c.loop-i.invariant.1)

pub returns : goal.returns
returns c =
    let eight : c.loop-i.i ≡ 8 = omega (arith, c.loop-i-test.false, c.loop-i.auto.i-end) in
    let all : all_set (take 8 c.in_ok-rest.rest.now) ≡ Some c.loop-i.word =
    subst (λ n. all_set (take n c.in_ok-rest.rest.now) ≡ Some (take n c.loop-i.word)) eight c.loop-i.invariant.0 ∙ ap Some (take_all 8 c.loop-i.word (omega (arith, c.loop-i.invariant.1))) in
    sym (ap (λ w. and_then (inside w) (λ bs. set (all_set bs))) (window_of_rest 8 c.args.bytes.now c.args.place c.in_ok-rest.rest.now (rw (← to_z-of_z w128 c.args.place c.ranges.place) c.in_ok-rest.ensures) c.if-rest-lt8.false) ∙ ap set all)
