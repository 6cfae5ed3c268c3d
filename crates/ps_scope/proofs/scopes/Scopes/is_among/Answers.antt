use Rattle.std.proofs.Common.{◌∙◌, ap, sym, nat_lt, length, ◌-◌}
use Rattle.ps_scope.specs.Environments.{Frames, word, is_among}
use Rattle.ps_scope.proofs.Pairs.{among_pairs}
use Rattle.ps_scope.proofs.scopes.Scopes.is_among.Goals as goal

pub returns : goal.returns
returns c =
    let t = c.self.inside.table in
    ap (λ k. nat_lt k c.height.result) (c.saturating_sub-older.ensures ∙ ap (λ n. n - c.args.count) c.len.ensures)
    ∙ ap (nat_lt (length t.live - c.args.count)) c.height.ensures
    ∙ sym (among_pairs c.args.count t.live c.args.name.0 c.args.stamps.now)
    ∙ ap (λ (f : Frames). is_among c.args.count f.here (word c.args.name c.args.stamps.now)) c.self.view_is
