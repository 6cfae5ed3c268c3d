use Rattle.std.proofs.Common.{◌≡◌, ◌-◌, Err, refl, arith}
use Rattle.ps_unify.specs.InsideShapes.{shape_of}
use Rattle.ps_unify.specs.InsideSteps.{Equal, EqualAll, weight, weights}
use Rattle.ps_unify.proofs.StepsComeToTheirEnd.{both, first_stops, from_first, from_left, from_right, left_becomes, right_becomes, parts_come, parts_stop}
use Rattle.ps_unify.proofs.equalizing.+equalizing.Goals as goal

pub compare-returns-in-None-variable : goal.compare-returns-in-None-variable
compare-returns-in-None-variable t c = left_becomes c.args.s.now c.args.a.now c.args.b.now c.in-Some.x c.in-Some.ensures c.args.room c.bind_within.new.s c.bind_within.result c.bind_within.ensures

pub compare-returns-in-Some-variable-2 : goal.compare-returns-in-Some-variable-2
compare-returns-in-Some-variable-2 t c = right_becomes c.args.s.now c.args.a.now c.args.b.now c.in-Some-variable-2.y c.in-Some-variable-2.ensures c.args.room c.bind_within-in-Some-variable-2.new.s c.bind_within-in-Some-variable-2.result c.bind_within-in-Some-variable-2.ensures

pub compare_parts-returns-in-Ok : goal.compare_parts-returns-in-Ok
compare_parts-returns-in-Ok t c =
    let same : shape_of c.args.a.now ≡ shape_of c.args.b.now = c.if-not-are_alike.ensures.0 refl in
    parts_come c.args.s.now c.args.a.now c.args.b.now c.requires.left c.requires.right c.parameters.result.now c.parameters-2.result.now c.parameters.ensures c.parameters-2.ensures
    same (c.args.room - 1) c.args.room (omega (arith, c.if-room-eq0.false)) c.equalize_all.new.s
    c.last.result.now c.last-in-Ok.result.now c.last.ensures c.last-in-Ok.ensures c.in-Ok.left c.equalize_all-in-Ok.new.s c.equalize_all-in-Ok.result
    c.in-Ok.ensures c.equalize_all-in-Ok.ensures

pub compare_parts-returns-in-Err : goal.compare_parts-returns-in-Err
compare_parts-returns-in-Err t c =
    let same : shape_of c.args.a.now ≡ shape_of c.args.b.now = c.if-not-are_alike.ensures.0 refl in
    parts_stop c.args.s.now c.args.a.now c.args.b.now c.requires.left c.requires.right c.parameters.result.now c.parameters-2.result.now c.parameters.ensures c.parameters-2.ensures
    same (c.args.room - 1) c.args.room (omega (arith, c.if-room-eq0.false)) c.equalize_all.new.s
    c.in-Err.e c.in-Err.ensures

pub equalize-returns-in-Ok : goal.equalize-returns-in-Ok
equalize-returns-in-Ok t c = from_left c.args.s.now c.in-Ok.left c.args.a.now c.args.b.now c.in-Ok.ensures.same c.args.room c.equalize_headed.new.s c.equalize_headed.result c.equalize_headed.ensures

pub equalize_headed-returns-in-Ok : goal.equalize_headed-returns-in-Ok
equalize_headed-returns-in-Ok t c = from_right c.args.s.now c.args.a.now c.in-Ok.right c.args.b.now c.in-Ok.ensures.same c.args.room c.compare.new.s c.compare.result c.compare.ensures

pub equalize_all-returns-in-Ok : goal.equalize_all-returns-in-Ok
equalize_all-returns-in-Ok t c = from_first c.args.s.now c.args.left.now c.args.right.now
    c.in-Some.a.now c.in-Some-split_first.b.now c.in-Some.left.now c.in-Some-split_first.right.now c.in-Some.ensures.cases.0 c.in-Some-split_first.ensures.cases.0
    c.args.room c.equalize_all.new.s c.equalize_all.result 1
    (both c.args.s.now (Equal c.in-Some.a.now c.in-Some-split_first.b.now) (EqualAll c.in-Some.left.now c.in-Some-split_first.right.now) (weight c.in-Some.a.now) (weights c.in-Some.left.now) 1 0
    c.args.room c.equalize.new.s c.in-Ok.room c.equalize_all.new.s c.in-Ok.ensures c.equalize_all.result c.equalize_all.ensures)

pub equalize_all-returns-in-Err : goal.equalize_all-returns-in-Err
equalize_all-returns-in-Err t c = from_first c.args.s.now c.args.left.now c.args.right.now
    c.in-Some.a.now c.in-Some-split_first.b.now c.in-Some.left.now c.in-Some-split_first.right.now c.in-Some.ensures.cases.0 c.in-Some-split_first.ensures.cases.0
    c.args.room c.equalize.new.s (Err c.in-Err.e) 1
    (first_stops c.args.s.now (Equal c.in-Some.a.now c.in-Some-split_first.b.now) (EqualAll c.in-Some.left.now c.in-Some-split_first.right.now) (weight c.in-Some.a.now) (weights c.in-Some.left.now) 1 0
    c.args.room c.equalize.new.s c.in-Err.e c.in-Err.ensures)
