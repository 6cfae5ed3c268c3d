use Rattle.std.proofs.Common.{◌≡◌, ◌∙◌, sym, ap, None, slice_get}
use Rattle.std.specs.Option.{option_copied}
use Rattle.std.proofs.lemmas.List.{get_or_past}
use Rattle.ps_scope.proofs.Trails.{get_none}
use Rattle.ps_scope.proofs.counts.count_of.Goals as goal

pub returns-in-None : goal.returns-in-None
returns-in-None c =
    let e : slice_get c.args.counts.now c.args.local ≡ None = sym c.at.ensures ∙ ap option_copied c.in-None.is in
    sym (get_or_past c.args.counts.now c.args.local 0 (get_none c.args.counts.now c.args.local e))
