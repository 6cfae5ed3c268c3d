use Rattle.std.proofs.Common.{map, ◌∙◌}
use Rattle.std.specs.Int.{w128}
use Rattle.std.proofs.lemmas.Int.{to_z-of_z}
use Rattle.byte_store.specs.Inside.{edited, seen, seen_numbered}
use Rattle.byte_store.proofs.EditsChangeOneBlock.{fixed_leaves, made_leaves, edited_next}
use Rattle.byte_store.proofs.store.Store.edit_at.Goals as goal

pub invariant_of-self : goal.invariant_of-self
invariant_of-self g c = c.self.invariant ∙ edited_next _ _ _ _ _ c.edit_fixed.ensures

pub returns-in-Fixed : goal.returns-in-Fixed
returns-in-Fixed g c =
    rw (c.in-Fixed.is, ← c.self.view_is)
    (fixed_leaves c.edit_fixed.result (record { fixed = map seen_numbered c.self.inside.fixed.entries; made = map seen c.self.inside.made.items }) (map seen_numbered c.edit_fixed.new.fixed.entries) c.in-Fixed.n c.args.place (edited c.args.edit) (rw (← to_z-of_z w128 c.args.place c.ranges.place) c.edit_fixed.ensures))

pub returns-in-Made : goal.returns-in-Made
returns-in-Made g c =
    rw (c.in-Made.is, ← c.self.view_is)
    (made_leaves c.edit_made.result (record { fixed = map seen_numbered c.self.inside.fixed.entries; made = map seen c.self.inside.made.items }) (map seen c.edit_made.new.made.items) c.in-Made.n c.args.place (edited c.args.edit) (rw (← to_z-of_z w128 c.args.place c.ranges.place) c.edit_made.ensures))
