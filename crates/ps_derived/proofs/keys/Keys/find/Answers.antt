use Rattle.std.proofs.Common.{ap, ◌∙◌}
use Rattle.ps_pattern.specs.Identifiers.{place_of}
use Rattle.ps_pattern.proofs.Tables.{place_is}
use Rattle.ps_derived.proofs.keys.Keys.find.Goals as goal

pub returns : goal.returns
returns c = c.get_index_of.ensures.index ∙ place_is c.self.inside.keys.keys c.as_slice.result.now ∙ ap (λ ks. place_of ks c.as_slice.result.now) c.self.view_is ∙ ap (place_of c.args.self.now) (c.as_slice.ensures.value ∙ c.in_ok-key.ensures)
