use Rattle.std.proofs.Common.{◌≡◌, Some, ap, ◌∙◌}
use Rattle.std.specs.Prelude.{slice_get}
use Rattle.std.specs.Option.{option_map}
use Rattle.std.specs.Int.{w128}
use Rattle.std.proofs.lemmas.Int.{to_z-of_z}
use Rattle.std.proofs.lemmas.List.{map-set}
use Rattle.std.proofs.lemmas.Option.{slice_get-map, slice_get_read}
use Rattle.byte_store.specs.Inside.{seen, edited}
use Rattle.byte_store.proofs.EditsReplaceByNumber.{replaces, made_same}
use Rattle.byte_store.proofs.store.edit_made.Goals as goal

pub returns : goal.returns
returns g c =
    let here : slice_get c.args.made.now.items c.args.number ≡ Some c.index_mut.result.now = slice_get_read c.args.made.now.items c.len.result c.args.number c.index_mut.result.now (c.len.ensures ∙ c.args.made.now.ok.0) c.if-len-i.false c.index_mut.ensures.value in
    replaces c.edit.result (seen c.index_mut.result.now) (seen c.edit.new.self) _ (λ b. edited c.args.edit b c.args.place) _ _
    (slice_get-map seen c.args.made.now.items c.args.number ∙ ap (option_map seen) here)
    (rw (← to_z-of_z w128 c.args.place c.ranges.place) c.edit.ensures)
    (map-set seen c.args.made.now.items c.args.number c.edit.new.self)
    (λ same. made_same c.args.made.now.items c.args.number c.index_mut.result.now c.edit.new.self here same)
