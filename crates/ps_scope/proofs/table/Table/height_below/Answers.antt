use Rattle.std.proofs.Common.{◌≡◌, ◌∙◌, ◌≤◌, ◌-◌, List, ℕ, false, sym, ap, subst, arith, slice_index_or, length}
use Rattle.ps_scope.specs.Environments.{word, is_of}
use Rattle.ps_scope.specs.InsideTables.{Stacked, Serves, bucket_of, entry, oldest}
use Rattle.ps_scope.proofs.Buckets.{bucket_small, newest_le}
use Rattle.ps_scope.proofs.Oldest.{length_oldest}
use Rattle.ps_scope.proofs.Chains.{begun, reached_at, onward_at, ended}
use Rattle.ps_scope.proofs.Pushing.{bucket_at}
use Rattle.ps_scope.proofs.Places.{some_same}
use Rattle.ps_scope.proofs.Standing.{served, has_row, row_of, top_of, next_of}
use Rattle.ps_scope.proofs.table.Table.height_below.Goals as goal
use Rattle.ps_scope.proofs.table.Table.height_below.Goals.{else-height-below-via-then-height-below+else-is_same, else-height-below-via-else-height-below}

pub chain-init : goal.chain-init
chain-init c =
    let w : List ℕ = word c.args.name c.args.stamps.now in
    let right = subst (λ es. Serves c.self.inside.rows c.self.inside.live c.self.inside.heads c.self.inside.newest es) (ap (λ (s : Stacked). s.live) c.self.view_is) c.self.invariant in
    begun c.args.self.now.live c.args.owner w c.args.below (slice_index_or c.as_slice.result.now c.bucket-b.result 0)
    (ap (λ b. slice_index_or c.as_slice.result.now b 0) c.bucket-b.ensures ∙ ap (λ hs. slice_index_or hs (bucket_of c.args.owner w) 0) c.as_slice.ensures ∙ right.firsts (bucket_of c.args.owner w) (bucket_small c.args.owner w))

pub slot_at-slot-requires : goal.slot_at-slot-requires
slot_at-slot-requires c =
    let e = ap (λ (s : Stacked). length s.live) c.self.view_is in
    record { above = c.chain-test.true; within = omega (arith, c.chain.invariant.within, c.self.invariant.count, e, ap length c.as_slice-live.ensures) }

pub row_at-requires : goal.row_at-requires
row_at-requires c =
    let right = served c.self.inside.rows c.as_slice-rows.result.now c.self.inside.live c.as_slice-live.result.now c.self.inside.heads c.self.inside.newest _ c.args.self.now.live c.as_slice-rows.ensures c.as_slice-live.ensures (ap (λ (s : Stacked). s.live) c.self.view_is) c.self.invariant in
    has_row _ _ _ _ _ right (c.chain.height - 1) c.slot_at-slot.result c.slot_at-slot.ensures

pub returns-then-is_same : goal.returns-then-is_same
returns-then-is_same c =
    let w : List ℕ = word c.args.name c.args.stamps.now in
    let right = served c.self.inside.rows c.as_slice-rows.result.now c.self.inside.live c.as_slice-live.result.now c.self.inside.heads c.self.inside.newest _ c.args.self.now.live c.as_slice-rows.ensures c.as_slice-live.ensures (ap (λ (s : Stacked). s.live) c.self.view_is) c.self.invariant in
    sym (reached_at c.args.self.now.live c.args.owner w c.args.below c.chain.height (entry c.row_at.result.now) c.chain.invariant c.chain-test.true c.if-height-below.true
    (top_of _ _ _ _ _ right (c.chain.height - 1) c.slot_at-slot.result c.slot_at-slot.ensures c.row_at.result.now c.row_at.ensures)
    (sym c.is_same.ensures ∙ c.if-is_same.true))

pub chain-smaller : goal.chain-smaller
chain-smaller c =
    let right = served c.self.inside.rows c.as_slice-rows.result.now c.self.inside.live c.as_slice-live.result.now c.self.inside.heads c.self.inside.newest _ c.args.self.now.live c.as_slice-rows.ensures c.as_slice-live.ensures (ap (λ (s : Stacked). s.live) c.self.view_is) c.self.invariant in
    let p = row_of _ _ _ _ _ right (c.chain.height - 1) c.slot_at-slot.result c.slot_at-slot.ensures in
    let n = next_of _ _ _ _ _ right (c.chain.height - 1) c.slot_at-slot.result c.slot_at-slot.ensures p.0 p.1 in
    let within = c.chain.invariant.within in
    omega (arith, n, within, c.chain-test.true, newest_le (oldest (c.chain.height - 1) c.args.self.now.live) (bucket_at p.0), length_oldest c.args.self.now.live (c.chain.height - 1) (omega (arith, within)))

pub chain-preserved : goal.chain-preserved
chain-preserved c =
    let w : List ℕ = word c.args.name c.args.stamps.now in
    let right = served c.self.inside.rows c.as_slice-rows.result.now c.self.inside.live c.as_slice-live.result.now c.self.inside.heads c.self.inside.newest _ c.args.self.now.live c.as_slice-rows.ensures c.as_slice-live.ensures (ap (λ (s : Stacked). s.live) c.self.view_is) c.self.invariant in
    let p = row_of _ _ _ _ _ right (c.chain.height - 1) c.slot_at-slot.result c.slot_at-slot.ensures in
    let top = top_of _ _ _ _ _ right (c.chain.height - 1) c.slot_at-slot.result c.slot_at-slot.ensures p.0 p.1 in
    let n = next_of _ _ _ _ _ right (c.chain.height - 1) c.slot_at-slot.result c.slot_at-slot.ensures p.0 p.1 in
    let other : c.chain.height ≤ c.args.below → is_of c.args.owner w (entry p.0) ≡ false =
    λ le. elim c.else-height-below.branch [
      | else-height-below-via-then-height-below+else-is_same b ↦ ap (λ r. is_of c.args.owner w (entry r)) (some_same p.0 b.row_at.result.now (sym p.1 ∙ b.row_at.ensures)) ∙ sym b.is_same.ensures ∙ b.if-is_same.false
      | else-height-below-via-else-height-below b ↦ absurd (omega (arith, b.if-height-below.false))
    ] in
    onward_at c.args.self.now.live c.args.owner w c.args.below c.chain.height c.slot_at-slot.result.next (entry p.0) c.chain.invariant c.chain-test.true top other n

pub returns : goal.returns
returns c = sym (ended c.args.self.now.live c.args.owner (word c.args.name c.args.stamps.now) c.args.below c.chain.height c.chain.invariant (omega arith))
