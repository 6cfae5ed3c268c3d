use Rattle.std.proofs.Common.{◌≡◌, Some, None, map, sym, ap, ◌∙◌}
use Rattle.std.specs.Option.{option_map}
use Rattle.std.specs.Int.{w128}
use Rattle.std.specs.BTreeMap.{is_at}
use Rattle.std.specs.Map.{lookup}
use Rattle.std.specs.Ordering.{nat_cmp}
use Rattle.std.proofs.lemmas.Int.{to_z-of_z}
use Rattle.byte_store.specs.Inside.{seen, seen_numbered, edited}
use Rattle.byte_store.specs.Operations.{and_then, inside}
use Rattle.byte_store.proofs.NumbersAreFound.{find_is, replaced_is}
use Rattle.byte_store.proofs.EditsReplaceByNumber.{replaces, fixed_same}
use Rattle.byte_store.proofs.store.edit_fixed.Goals as goal

pub returns-in-Some : goal.returns-in-Some
returns-in-Some g c =
    let here : lookup (is_at (nat_cmp c.args.number)) c.args.fixed.now.entries ≡ Some c.in-Some.block.now = sym c.in-Some.ensures.value in
    let wrote = (c.get_mut.follows.holds c.edit.new.self).0 in
    replaces c.edit.result (seen c.in-Some.block.now) (seen c.edit.new.self) _ (λ b. edited c.args.edit b c.args.place) _ _
    (sym (find_is seen c.args.number c.args.fixed.now.entries) ∙ ap (option_map seen) here)
    (rw (← to_z-of_z w128 c.args.place c.ranges.place) c.edit.ensures)
    (rw wrote (replaced_is seen c.args.number c.edit.new.self c.args.fixed.now.entries))
    (λ same. rw wrote (fixed_same c.args.fixed.now.entries c.args.number c.in-Some.block.now c.edit.new.self here same))

pub returns-in-None : goal.returns-in-None
returns-in-None g c =
    let gone : lookup (is_at (nat_cmp c.args.number)) c.args.fixed.now.entries ≡ None = sym c.in-None.ensures.value in
    (ap (λ b. and_then (inside b) (λ b. edited c.args.edit b c.args.place)) (sym (find_is seen c.args.number c.args.fixed.now.entries) ∙ ap (option_map seen) gone), ap (λ m. map seen_numbered m.entries) c.get_mut.follows.holds-at-none)
