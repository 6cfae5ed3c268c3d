use Rattle.std.proofs.Common.{ap, ◌∙◌}
use Rattle.ps_modules.specs.Texts.{place_in}
use Rattle.ps_modules.proofs.Places.{position-is}
use Rattle.ps_modules.proofs.tables.Numbers.place.Goals as goal

pub returns-clause-is : goal.returns-clause-is
returns-clause-is c = c.get_index_of.ensures.index ∙ position-is c.self.inside.numbers.keys c.args.number ∙ ap (λ ks. place_in ks c.args.number) c.self.view_is
