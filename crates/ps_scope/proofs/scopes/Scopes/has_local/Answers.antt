use Rattle.std.proofs.Common.{◌∙◌, ap, sym, nat_lt, slice_index}
use Rattle.ps_scope.specs.Environments.{Frames, has_local}
use Rattle.ps_scope.specs.InsideScopes.{pairs}
use Rattle.ps_scope.proofs.Counted.{has_counted}
use Rattle.ps_scope.proofs.scopes.Scopes.has_local.Goals as goal

pub returns : goal.returns
returns c =
    ap (nat_lt 0) (c.count_of.ensures ∙ ap (λ xs. slice_index xs c.args.local) c.as_slice.ensures ∙ c.self.invariant.1.counted c.args.local)
    ∙ sym (has_counted (pairs c.self.inside.table.live) c.args.local)
    ∙ ap (λ (f : Frames). has_local f.here c.args.local) c.self.view_is
