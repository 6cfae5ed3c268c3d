use Rattle.std.proofs.Common.{ap, ◌∙◌}
use Rattle.ps_pattern.specs.Identifiers.{stands}
use Rattle.ps_pattern.proofs.Tables.{stands_is}
use Rattle.ps_pattern.proofs.keys.Keys.has.Goals as goal

pub returns : goal.returns
returns c = c.contains.ensures ∙ stands_is c.self.inside.keys.keys c.as_slice.result.now ∙ ap (λ ks. stands ks c.as_slice.result.now) c.self.view_is ∙ ap (stands c.args.self.now) (c.as_slice.ensures.value ∙ c.in_ok-key.ensures)
