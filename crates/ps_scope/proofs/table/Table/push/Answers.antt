use Rattle.std.proofs.Common.{◌∙◌, ◌∷◌, ◌++◌, [], ap, sym, refl, arith, slice_index_or}
use Rattle.ps_scope.specs.Environments.{word, entry_of}
use Rattle.ps_scope.specs.InsideTables.{Stacked, trail_at, trails, bucket_of}
use Rattle.ps_scope.specs.declared.table.Row.{Row}
use Rattle.ps_scope.specs.declared.table.Slot.{Slot}
use Rattle.ps_scope.proofs.Pushing.{pushed, pushed_live}
use Rattle.ps_scope.proofs.Trails.{trails_snoc}
use Rattle.ps_scope.proofs.table.Table.push.Goals as goal

pub invariant_of-self-in-Ok : goal.invariant_of-self-in-Ok
invariant_of-self-in-Ok c =
    let r : Row = record { owner = c.args.owner; name = c.args.name; stamps = c.in_ok-stamps.stamps; binding = c.args.binding; parent = c.self.inside.newest; place = c.len-place.result } in
    let s : Slot = record { row = c.len-row.result; next = slice_index_or c.as_slice.result.now c.bucket-b.result 0 } in
    let b = c.bucket-b.ensures ∙ ap (λ ss. bucket_of c.args.owner (word c.args.name ss)) (sym c.in_ok-stamps.ensures) in
    pushed c.self.inside.rows c.push.new.self c.self.inside.live c.push-2.new.self c.self.inside.heads c.set.new.self c.self.inside.newest c.len-self-inside.result c.bucket-b.result c.len-height.result (trail_at (trails c.self.inside.rows) c.self.inside.newest) r s
    c.in_ok-push.ensures.ok c.in-Ok.ensures.ok c.set.ensures b c.len-height.ensures c.len-self-inside.ensures
    (record { trail = refl; parent = refl; number = c.len-row.ensures; next = ap (λ b. slice_index_or c.as_slice.result.now b 0) b ∙ ap (λ hs. slice_index_or hs (bucket_of c.args.owner (word c.args.name c.in_ok-stamps.stamps)) 0) c.as_slice.ensures })
    c.self.invariant

pub returns-in-Ok-clause-live : goal.returns-in-Ok-clause-live
returns-in-Ok-clause-live c =
    let r : Row = record { owner = c.args.owner; name = c.args.name; stamps = c.in_ok-stamps.stamps; binding = c.args.binding; parent = c.self.inside.newest; place = c.len-place.result } in
    pushed_live c.self.inside.rows c.push.new.self c.self.inside.newest c.len-self-inside.result c.args.self.now.live r c.in_ok-push.ensures.ok c.len-self-inside.ensures (ap (λ (s : Stacked). s.live) c.self.view_is) refl
    ∙ ap (λ ss. entry_of c.args.owner (word c.args.name ss) c.args.binding ∷ c.args.self.now.live) c.in_ok-stamps.ensures

pub returns-in-Ok-clause-trails : goal.returns-in-Ok-clause-trails
returns-in-Ok-clause-trails c =
    let r : Row = record { owner = c.args.owner; name = c.args.name; stamps = c.in_ok-stamps.stamps; binding = c.args.binding; parent = c.self.inside.newest; place = c.len-place.result } in
    let l = pushed_live c.self.inside.rows c.push.new.self c.self.inside.newest c.len-self-inside.result (trail_at (trails c.self.inside.rows) c.self.inside.newest) r c.in_ok-push.ensures.ok c.len-self-inside.ensures refl refl in
    ap trails c.in_ok-push.ensures.ok ∙ trails_snoc c.self.inside.rows r
    ∙ ap (λ es. trails c.self.inside.rows ++ es ∷ []) (sym l)
    ∙ ap (λ ts. ts ++ trail_at (trails c.push.new.self) c.len-self-inside.result ∷ []) (ap (λ (s : Stacked). s.trails) c.self.view_is)

pub returns-in-Ok-clause-few : goal.returns-in-Ok-clause-few
returns-in-Ok-clause-few c =
    let i = invariant_of-self-in-Ok c in
    omega (arith, i.count, c.len-height.ensures)
