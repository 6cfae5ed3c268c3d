use Rattle.std.proofs.Common.{◌≡◌, ◌∙◌, ◌-◌, suc, sym, ap, arith, length}
use Rattle.ps_scope.specs.Environments.{word}
use Rattle.ps_scope.specs.InsideTables.{Stacked, oldest, entry}
use Rattle.ps_scope.proofs.Buckets.{height_le}
use Rattle.ps_scope.proofs.Oldest.{oldest_le}
use Rattle.ps_scope.proofs.Chains.{none_found, found_below}
use Rattle.ps_scope.proofs.Standing.{served, has_row, top_of}
use Rattle.ps_scope.proofs.table.Table.find_below.Goals as goal

pub returns-then-height-eq0 : goal.returns-then-height-eq0
returns-then-height-eq0 c = sym (none_found (oldest c.args.below c.args.self.now.live) c.args.owner (word c.args.name c.args.stamps.now) (sym c.height_below-height.ensures ∙ c.if-height-eq0.true))

pub slot_at-slot-requires : goal.slot_at-slot-requires
slot_at-slot-requires c =
    let e = ap (λ (s : Stacked). length s.live) c.self.view_is in
    let h = height_le (oldest c.args.below c.args.self.now.live) c.args.owner (word c.args.name c.args.stamps.now) in
    let o = oldest_le c.args.self.now.live c.args.below in
    record { above = omega arith; within = omega (arith, c.height_below-height.ensures, h, o, c.self.invariant.count, e, ap length c.as_slice.ensures) }

pub row_at-requires : goal.row_at-requires
row_at-requires c =
    let right = served c.self.inside.rows c.as_slice-2.result.now c.self.inside.live c.as_slice.result.now c.self.inside.heads c.self.inside.newest _ c.args.self.now.live c.as_slice-2.ensures c.as_slice.ensures (ap (λ (s : Stacked). s.live) c.self.view_is) c.self.invariant in
    has_row _ _ _ _ _ right (c.height_below-height.result - 1) c.slot_at-slot.result c.slot_at-slot.ensures

pub returns : goal.returns
returns c =
    let right = served c.self.inside.rows c.as_slice-2.result.now c.self.inside.live c.as_slice.result.now c.self.inside.heads c.self.inside.newest _ c.args.self.now.live c.as_slice-2.ensures c.as_slice.ensures (ap (λ (s : Stacked). s.live) c.self.view_is) c.self.invariant in
    let top = top_of _ _ _ _ _ right (c.height_below-height.result - 1) c.slot_at-slot.result c.slot_at-slot.ensures c.row_at.result.now c.row_at.ensures in
    let a : c.height_below-height.result ≡ suc (c.height_below-height.result - 1) = omega arith in
    sym (found_below c.args.self.now.live c.args.below c.args.owner (word c.args.name c.args.stamps.now) (c.height_below-height.result - 1) (entry c.row_at.result.now) (sym c.height_below-height.ensures ∙ a) top)
