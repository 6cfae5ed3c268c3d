use Rattle.std.proofs.Common.{◌≡◌, sym, refl, ◌∙◌, to_z, of_z}
use Rattle.std.specs.Int.{w64}
use Rattle.std.proofs.lemmas.Int.{to_z-of_z}
use Rattle.ps_prims.proofs.ChangesAreTheRows.{put_is_further}
use Rattle.ps_prims.proofs.changes.change_cell.Goals as goal

pub returns-in-Err : goal.returns-in-Err
returns-in-Err g c =
    let same : to_z w64 (of_z w64 c.args.k) ≡ c.args.k = to_z-of_z w64 c.args.k c.ranges.k in
    let stays = sym (rw same at c.move_by.ensures) ∙ c.in-Err.is in
    (put_is_further c.args.store.now c.args.p c.args.k c.args.x c.in-Err.op stays, refl, refl)
