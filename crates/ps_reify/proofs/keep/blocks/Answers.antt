use Rattle.std.proofs.Common.{ap, ◌∙◌, map}
use Rattle.byte_store.specs.Contents.{lent_numbered}
use Rattle.ps_reify.specs.InsideWork.{flagged, all_added}
use Rattle.ps_reify.proofs.CopiesAreOfTheSeen.{added_is}
use Rattle.ps_reify.proofs.keep.blocks.Goals as goal

pub returns : goal.returns
returns g c =
    c.in_ok-add_blocks.ensures
    ∙ ap (λ xs. all_added (flagged c.args.walk.now) (map lent_numbered xs)) c.deref.ensures.value
    ∙ ap (all_added (flagged c.args.walk.now)) c.in_ok-all.ensures
    ∙ added_is (flagged c.args.walk.now) c.args.image.now.store.now.fixed
