use Rattle.std.proofs.Common.{◌∙◌, ap, sym}
use Rattle.ps_scope.specs.Environments.{Frames, word, found}
use Rattle.ps_scope.proofs.Pairs.{found_pairs}
use Rattle.ps_scope.proofs.scopes.Scopes.find.Goals as goal

pub returns : goal.returns
returns c =
    c.find.ensures ∙ sym (found_pairs c.self.inside.table.live c.args.name.0 c.args.stamps.now)
    ∙ ap (λ (f : Frames). found f.here (word c.args.name c.args.stamps.now)) c.self.view_is
