use Rattle.std.proofs.Common.{◌∙◌, ap, arith, length}
use Rattle.ps_scope.specs.Environments.{Frames}
use Rattle.ps_scope.specs.InsideScopes.{pairs}
use Rattle.ps_scope.proofs.Counted.{how_many_le}
use Rattle.ps_scope.proofs.Pairs.{kept_of, kept_stays, length_pairs}
use Rattle.ps_scope.proofs.scopes.Scopes.bind.Goals as goal

pub count_in-requires-clause-few : goal.count_in-requires-clause-few
count_in-requires-clause-few c = λ l.
    let t = c.self.inside.table in
    omega (arith, c.in_ok-make_room.ensures.same l, c.self.invariant.1.counted l, how_many_le (pairs t.live) l, length_pairs t.live, ap length c.in_ok-push.ensures.live, c.in_ok-push.ensures.few)

pub returns-clause-kept : goal.returns-clause-kept
returns-clause-kept c =
    let t = c.self.inside.table in
    ap (λ ts. kept_of ts c.self.inside.kept) c.in_ok-push.ensures.trails
    ∙ kept_stays t.trails c.push.new.self.live c.self.inside.kept c.self.invariant.0.within
    ∙ ap (λ (f : Frames). f.kept) c.self.view_is
