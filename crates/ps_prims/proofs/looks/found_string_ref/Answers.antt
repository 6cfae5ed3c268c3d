use Rattle.std.proofs.Common.{◌≡◌, sym, refl, ◌∙◌, to_z, of_z}
use Rattle.std.specs.Int.{w64}
use Rattle.std.proofs.lemmas.Int.{to_z-of_z}
use Rattle.ps_prims.proofs.WhatIsReadIsAPlace.{text_is_further}
use Rattle.ps_prims.proofs.looks.found_string_ref.Goals as goal

pub returns-in-Err-move_by : goal.returns-in-Err-move_by
returns-in-Err-move_by g c =
    let same : to_z w64 (of_z w64 c.args.k) ≡ c.args.k = to_z-of_z w64 c.args.k c.ranges.k in
    let read = sym (rw same at c.char_at.ensures) ∙ c.in-Ok.is in
    let stays = sym (rw same at c.move_by.ensures) ∙ c.in-Err-move_by.is in
    (text_is_further c.args.store.now c.args.p c.args.k c.in-Ok.c c.in-Err-move_by.op read stays, refl)
