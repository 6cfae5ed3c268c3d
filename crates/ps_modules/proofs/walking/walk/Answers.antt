use Rattle.std.proofs.Common.{rules, ◌≡◌, ℕ, ◌+◌, ◌-◌, ◌++◌, [], ◌∷◌, length, slice_get, slice_set, true, Some, None, Ok, Err, refl, sym, ap, ◌∙◌, arith}
use Rattle.ps_modules.specs.declared.walking.Frame.{Frame}
use Rattle.ps_modules.specs.InsideTexts.{defined}
use Rattle.ps_modules.specs.InsideWalking.{opens_by, all_unmet}
use Rattle.ps_modules.specs.Playing.{no_memory}
use Rattle.ps_modules.proofs.PartsAreGathered.{all_stay_same}
use Rattle.ps_modules.proofs.StructuresAreMet.{structures, unmet_length, lighter_known, lighter_met, lighter_left}
use Rattle.ps_modules.proofs.WalkIsPlayed.{leads_as, first_at, some_entry, starts, told_so, popped, finished, refused, known, new_below, new_unmet, deeper, stuck, top_inside, top_new, few_walked, lost_behind, closed, left_behind}
use Rattle.ps_modules.proofs.walking.walk.Goals as goal

pub returns-in_default : goal.returns-in_default
returns-in_default g c =
    no_memory (all_stay_same _)

pub returns-then-is_err : goal.returns-then-is_err
returns-then-is_err g c =
    no_memory (all_stay_same _)

pub returns-then-is_err-2 : goal.returns-then-is_err-2
returns-then-is_err-2 g c =
    no_memory c.walking.invariant.stay

pub returns-then-is_err-3 : goal.returns-then-is_err-3
returns-then-is_err-3 g c =
    no_memory c.walking.invariant.stay

pub set-requires : goal.set-requires
set-requires g c =
    let x = ap length c.in-Ok.ensures in let y = unmet_length (length c.args.text.now.shapes) in let u = unmet_length c.len.result in let v = c.len.ensures in let w = c.len-last.ensures in
    let z = some_entry (defined c.args.text.now) c.args.limits.now c.args.names.now c.args.taken [] c.args.entry c.requires.entry in omega arith

pub walking-init : goal.walking-init
walking-init g c =
    let met : c.in-Ok.met ≡ all_unmet (length c.args.text.now.shapes) = c.in-Ok.ensures ∙ ap all_unmet c.len.ensures in
    let set : c.set.new.self ≡ slice_set c.in-Ok.met (length c.args.text.now.shapes - 1) true = c.set.ensures ∙ ap (λ (n : ℕ). slice_set c.in-Ok.met (n - 1) true) c.len-last.ensures in
    let pushed : c.push.new.self ≡ first_at (c.len-last.result - 1) c.args.entry = search rules in
    told_so _ _ _ _ _ _ _ _ _ _ _ _ _ _ _ _ set (pushed ∙ ap (λ (n : ℕ). first_at (n - 1) c.args.entry) c.len-last.ensures) c.new-walked.ensures c.new-order.ensures
    (starts _ _ _ _ _ c.args.entry c.requires.entry c.requires.taken c.requires.room _ met)

pub returns-in_default-pop : goal.returns-in_default-pop
returns-in_default-pop g c =
    let none : c.walking.frames ≡ [] = search rules in
    finished _ _ _ _ _ _ _ _ _ _ _ (popped _ _ _ _ _ _ _ _ _ _ _ _ _ none c.walking.invariant)

pub returns-in-Err : goal.returns-in-Err
returns-in-Err g c =
    let some : c.walking.frames ≡ c.in-Some.frame ∷ c.pop.new.self = search rules in
    let at : slice_get (opens_by (slice_get c.args.text.now.shapes c.in-Some.frame.structure)) c.in-Some.frame.next ≡ Some c.in-Some-opened_at.opened = search rules in
    refused _ _ _ _ _ _ _ _ _ _ _ _ _ (popped _ _ _ _ _ _ _ _ _ _ _ _ _ some c.walking.invariant) _ at _ (leads_as c.args.text.now.shapes (structures (c.in-Some.frame ∷ c.pop.new.self)) c.in-Some-opened_at.opened c.walking.names c.walking.walked c.walking.met
    c.leading.result (Err c.in-Err.refusal) c.in-Err.is c.leading.ensures)

pub walking-smaller-in_default-leads : goal.walking-smaller-in_default-leads
walking-smaller-in_default-leads g c =
    let some : c.walking.frames ≡ c.in-Some.frame ∷ c.pop.new.self = search rules in
    let at : slice_get (opens_by (slice_get c.args.text.now.shapes c.in-Some.frame.structure)) c.in-Some.frame.next ≡ Some c.in-Some-opened_at.opened = search rules in
    let onward : Frame = record { structure = c.in-Some.frame.structure; next = c.in-Some.frame.next + 1; exports = c.in-Some.frame.exports } in
    let pushed : c.push-in-Some-opened_at.new.self ≡ onward ∷ c.pop.new.self = search rules in
    lighter_known _ c.in-Some.frame onward _ _ at refl refl _ _ _ some pushed

pub walking-preserved-in_default-leads : goal.walking-preserved-in_default-leads
walking-preserved-in_default-leads g c =
    let some : c.walking.frames ≡ c.in-Some.frame ∷ c.pop.new.self = search rules in
    let at : slice_get (opens_by (slice_get c.args.text.now.shapes c.in-Some.frame.structure)) c.in-Some.frame.next ≡ Some c.in-Some-opened_at.opened = search rules in
    let onward : Frame = record { structure = c.in-Some.frame.structure; next = c.in-Some.frame.next + 1; exports = c.in-Some.frame.exports } in
    let pushed : c.push-in-Some-opened_at.new.self ≡ onward ∷ c.pop.new.self = search rules in
    let leads : c.leading.result ≡ Ok None = search rules in
    popped _ _ _ _ _ _ _ _ _ _ _ _ _ (sym pushed) (known _ _ _ _ _ _ _ _ _ _ _ _ _ (popped _ _ _ _ _ _ _ _ _ _ _ _ _ some c.walking.invariant) _ at (leads_as _ _ _ _ _ _ _ _ leads c.leading.ensures))

pub walking-smaller-in-Ok-exports_of : goal.walking-smaller-in-Ok-exports_of
walking-smaller-in-Ok-exports_of g c =
    let some : c.walking.frames ≡ c.in-Some.frame ∷ c.pop.new.self = search rules in
    let at : slice_get (opens_by (slice_get c.args.text.now.shapes c.in-Some.frame.structure)) c.in-Some.frame.next ≡ Some c.in-Some-opened_at.opened = search rules in
    let onward : Frame = record { structure = c.in-Some.frame.structure; next = c.in-Some.frame.next + 1; exports = c.in-Some.frame.exports } in
    let pushed : c.push-in-Some-opened_at.new.self ≡ onward ∷ c.pop.new.self = search rules in
    let leads : c.leading.result ≡ Ok (Some c.in-Some-leads.j) = search rules in
    let fresh : Frame = record { structure = c.in-Some-leads.j; next = 0; exports = c.in-Ok-exports_of.exports } in
    let begun : c.push-in-Ok-exports_of.new.self ≡ fresh ∷ c.push-in-Some-opened_at.new.self = search rules in
    let entered : c.push-in-Ok-exports_of.new.self ≡ fresh ∷ onward ∷ c.pop.new.self = begun ∙ ap (λ fs. fresh ∷ fs) pushed in
    lighter_met _ c.in-Some.frame onward _ _ at refl refl _ _ _ _ c.in-Some-leads.j fresh refl refl some entered c.set-in-Ok-exports_of.ensures
    (new_unmet _ _ _ _ _ _ _ _ _ _ _ _ _ (popped _ _ _ _ _ _ _ _ _ _ _ _ _ some c.walking.invariant) _ at c.in-Some-leads.j (leads_as _ _ _ _ _ _ _ _ leads c.leading.ensures)) (new_below _ _ _ _ _ _ _ _ _ _ _ _ _ (popped _ _ _ _ _ _ _ _ _ _ _ _ _ some c.walking.invariant) _ at c.in-Some-leads.j (leads_as _ _ _ _ _ _ _ _ leads c.leading.ensures))

pub walking-preserved-in-Ok-exports_of : goal.walking-preserved-in-Ok-exports_of
walking-preserved-in-Ok-exports_of g c =
    let some : c.walking.frames ≡ c.in-Some.frame ∷ c.pop.new.self = search rules in
    let at : slice_get (opens_by (slice_get c.args.text.now.shapes c.in-Some.frame.structure)) c.in-Some.frame.next ≡ Some c.in-Some-opened_at.opened = search rules in
    let onward : Frame = record { structure = c.in-Some.frame.structure; next = c.in-Some.frame.next + 1; exports = c.in-Some.frame.exports } in
    let pushed : c.push-in-Some-opened_at.new.self ≡ onward ∷ c.pop.new.self = search rules in
    let leads : c.leading.result ≡ Ok (Some c.in-Some-leads.j) = search rules in
    let fresh : Frame = record { structure = c.in-Some-leads.j; next = 0; exports = c.in-Ok-exports_of.exports } in
    let begun : c.push-in-Ok-exports_of.new.self ≡ fresh ∷ c.push-in-Some-opened_at.new.self = search rules in
    let entered : c.push-in-Ok-exports_of.new.self ≡ fresh ∷ onward ∷ c.pop.new.self = begun ∙ ap (λ fs. fresh ∷ fs) pushed in
    told_so _ _ _ _ _ _ _ _ _ _ _ _ _ _ _ _ c.set-in-Ok-exports_of.ensures entered refl refl
    (deeper _ _ _ _ _ _ _ _ _ _ _ _ _ (popped _ _ _ _ _ _ _ _ _ _ _ _ _ some c.walking.invariant) _ at c.in-Some-leads.j (leads_as _ _ _ _ _ _ _ _ leads c.leading.ensures) _ c.shape_at.ensures _ c.in-Ok-exports_of.ensures)

pub returns-in-Err-exports_of : goal.returns-in-Err-exports_of
returns-in-Err-exports_of g c =
    let some : c.walking.frames ≡ c.in-Some.frame ∷ c.pop.new.self = search rules in
    let at : slice_get (opens_by (slice_get c.args.text.now.shapes c.in-Some.frame.structure)) c.in-Some.frame.next ≡ Some c.in-Some-opened_at.opened = search rules in
    let leads : c.leading.result ≡ Ok (Some c.in-Some-leads.j) = search rules in
    stuck _ _ _ _ _ _ _ _ _ _ _ _ _ (popped _ _ _ _ _ _ _ _ _ _ _ _ _ some c.walking.invariant) _ at c.in-Some-leads.j (leads_as _ _ _ _ _ _ _ _ leads c.leading.ensures) _ c.shape_at.ensures c.in-Err-exports_of.broken _ c.refusal_by.ensures c.in-Err-exports_of.ensures

pub shape_at-shape-requires : goal.shape_at-shape-requires
shape_at-shape-requires g c =
    let some : c.walking.frames ≡ c.in-Some.frame ∷ c.pop.new.self = search rules in
    top_inside _ _ _ _ _ _ _ _ _ _ _ _ _ (popped _ _ _ _ _ _ _ _ _ _ _ _ _ some c.walking.invariant)

pub leave-requires-clause-numbered : goal.leave-requires-clause-numbered
leave-requires-clause-numbered g c =
    let some : c.walking.frames ≡ c.in-Some.frame ∷ c.pop.new.self = search rules in
    let x = few_walked _ _ _ _ _ _ _ _ _ _ _ _ _ (popped _ _ _ _ _ _ _ _ _ _ _ _ _ some c.walking.invariant) in let y = c.requires.indexed.few in omega arith

pub push-requires-in-Ok-leave : goal.push-requires-in-Ok-leave
push-requires-in-Ok-leave g c =
    let some : c.walking.frames ≡ c.in-Some.frame ∷ c.pop.new.self = search rules in
    top_new _ _ _ _ _ _ _ _ _ _ _ _ _ (popped _ _ _ _ _ _ _ _ _ _ _ _ _ some c.walking.invariant)

pub returns-then-is_err-4 : goal.returns-then-is_err-4
returns-then-is_err-4 g c =
    let some : c.walking.frames ≡ c.in-Some.frame ∷ c.pop.new.self = search rules in
    let none : slice_get (opens_by (slice_get c.args.text.now.shapes c.in-Some.frame.structure)) c.in-Some.frame.next ≡ None = search rules in
    lost_behind _ _ _ _ _ _ _ _ _ _ _ _ _ (popped _ _ _ _ _ _ _ _ _ _ _ _ _ some c.walking.invariant) _ c.shape_at-shape.ensures none _ _ c.in-Ok-leave.left c.in-Ok-leave.ensures

pub walking-smaller : goal.walking-smaller
walking-smaller g c =
    let some : c.walking.frames ≡ c.in-Some.frame ∷ c.pop.new.self = search rules in
    lighter_left _ _ _ _ _ some

pub walking-preserved : goal.walking-preserved
walking-preserved g c =
    let some : c.walking.frames ≡ c.in-Some.frame ∷ c.pop.new.self = search rules in
    let none : slice_get (opens_by (slice_get c.args.text.now.shapes c.in-Some.frame.structure)) c.in-Some.frame.next ≡ None = search rules in
    let walked : c.push-in-Ok-leave.new.self ≡ c.walking.walked ++ c.in-Some.frame.structure ∷ [] = search rules in
    let ordered : c.push-else-is_err-4.new.self ≡ c.walking.order ++ c.in-Ok-leave.left.structure ∷ [] = search rules in
    told_so _ _ _ _ _ _ _ _ _ _ _ _ _ _ _ _ refl refl walked ordered (closed _ _ _ _ _ _ _ _ _ _ _ _ _ (popped _ _ _ _ _ _ _ _ _ _ _ _ _ some c.walking.invariant) _ c.shape_at-shape.ensures none _ _ c.in-Ok-leave.left c.in-Ok-leave.ensures)

pub returns-in-Err-leave : goal.returns-in-Err-leave
returns-in-Err-leave g c =
    let some : c.walking.frames ≡ c.in-Some.frame ∷ c.pop.new.self = search rules in
    let none : slice_get (opens_by (slice_get c.args.text.now.shapes c.in-Some.frame.structure)) c.in-Some.frame.next ≡ None = search rules in
    left_behind _ _ _ _ _ _ _ _ _ _ _ _ _ (popped _ _ _ _ _ _ _ _ _ _ _ _ _ some c.walking.invariant) _ c.shape_at-shape.ensures none c.leave.new.names _ c.in-Err-leave.refusal c.in-Err-leave.ensures
