use Rattle.std.proofs.Common.{◌∙◌, ap, sym, subst, arith, length, drop, slice_get}
use Rattle.ps_scope.specs.Environments.{word}
use Rattle.ps_scope.specs.InsideTables.{Stacked, trail_at, trails, Serves, bucket_of, first_binding}
use Rattle.ps_scope.proofs.Places.{get_within}
use Rattle.ps_scope.proofs.Popping.{popped, top_slot, left, said}
use Rattle.ps_scope.proofs.table.Table.pop.Goals as goal

pub row_at-row-requires : goal.row_at-row-requires
row_at-row-requires c =
    let h = subst (λ ls. Serves c.self.inside.rows ls c.self.inside.heads c.self.inside.newest (trail_at (trails c.self.inside.rows) c.self.inside.newest)) c.in-Some.ensures c.self.invariant in
    let t = top_slot c.self.inside.rows c.pop.new.self c.self.inside.heads c.self.inside.newest (trail_at (trails c.self.inside.rows) c.self.inside.newest) c.in-Some.slot h in
    omega (arith, get_within c.self.inside.rows c.in-Some.slot.row t.row t.is, ap length c.as_slice.ensures)

pub invariant_of-self-in-Some : goal.invariant_of-self-in-Some
invariant_of-self-in-Some c =
    let r = c.row_at-row.result.now in
    popped c.self.inside.rows c.self.inside.live c.pop.new.self c.self.inside.heads c.set.new.self c.self.inside.newest c.bucket-b.result (trail_at (trails c.self.inside.rows) c.self.inside.newest) r c.in-Some.slot
    c.in-Some.ensures c.set.ensures
    (c.bucket-b.ensures ∙ ap (λ ss. bucket_of r.owner (word r.name ss)) c.as_slice-in-Some.ensures)
    (ap (λ rs. slice_get rs c.in-Some.slot.row) (sym c.as_slice.ensures) ∙ c.row_at-row.ensures)
    c.self.invariant

pub returns-in-Some-clause-live : goal.returns-in-Some-clause-live
returns-in-Some-clause-live c =
    let h = subst (λ ls. Serves c.self.inside.rows ls c.self.inside.heads c.self.inside.newest (trail_at (trails c.self.inside.rows) c.self.inside.newest)) c.in-Some.ensures c.self.invariant in
    left c.self.inside.rows c.pop.new.self c.self.inside.heads c.self.inside.newest (trail_at (trails c.self.inside.rows) c.self.inside.newest) c.in-Some.slot c.row_at-row.result.now
    (ap (λ rs. slice_get rs c.in-Some.slot.row) (sym c.as_slice.ensures) ∙ c.row_at-row.ensures) h
    ∙ ap (λ (s : Stacked). drop 1 s.live) c.self.view_is

pub returns-in-Some-clause-binding : goal.returns-in-Some-clause-binding
returns-in-Some-clause-binding c =
    let h = subst (λ ls. Serves c.self.inside.rows ls c.self.inside.heads c.self.inside.newest (trail_at (trails c.self.inside.rows) c.self.inside.newest)) c.in-Some.ensures c.self.invariant in
    said c.self.inside.rows c.pop.new.self c.self.inside.heads c.self.inside.newest (trail_at (trails c.self.inside.rows) c.self.inside.newest) c.in-Some.slot c.row_at-row.result.now
    (ap (λ rs. slice_get rs c.in-Some.slot.row) (sym c.as_slice.ensures) ∙ c.row_at-row.ensures) h
    ∙ ap (λ (s : Stacked). first_binding s.live) c.self.view_is
