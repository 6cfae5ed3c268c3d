use Rattle.std.proofs.Common.{◌≡◌, ◌∙◌, ◌+◌, suc, sym, ap, refl, arith, slice_index_or}
use Rattle.std.proofs.lemmas.Option.{slice_get-get_or}
use Rattle.ps_scope.specs.InsideTables.{Stacked, oldest, trail_at, trails}
use Rattle.ps_scope.specs.declared.table.Slot.{Slot}
use Rattle.ps_scope.proofs.Standing.{served, trail_of}
use Rattle.ps_scope.proofs.table.Table.live_height.Goals as goal

pub returns-then-live-row : goal.returns-then-live-row
returns-then-live-row c =
    let place = c.in_ok-row.row.now.place in
    let none : Slot = record { row = 0; next = 0 } in
    let s : Slot = slice_index_or c.as_slice-live.result.now place none in
    let right = served c.self.inside.rows c.self.inside.rows c.self.inside.live c.as_slice-live.result.now c.self.inside.heads c.self.inside.newest _ c.args.self.now.live refl c.as_slice-live.ensures (ap (λ (s : Stacked). s.live) c.self.view_is) c.self.invariant in
    let t = trail_of _ _ _ _ _ right place s (slice_get-get_or c.as_slice-live.result.now place none c.if-row-live.true) in
    let a : suc s.row ≡ c.args.mark = omega (arith, c.if-live-row.true) in
    let b : suc place ≡ place + 1 = omega arith in
    ap (λ ts. trail_at ts c.args.mark) (sym (ap (λ (s : Stacked). s.trails) c.self.view_is)) ∙ ap (trail_at (trails c.self.inside.rows)) (sym a) ∙ t ∙ ap (λ k. oldest k c.args.self.now.live) b
