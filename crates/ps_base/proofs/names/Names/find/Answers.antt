use Rattle.std.proofs.Common.{ap, sym, ◌∙◌}
use Rattle.ps_base.specs.Names.{number_of}
use Rattle.ps_base.proofs.Tables.{position-is}
use Rattle.ps_base.proofs.names.Names.find.Goals as goal

pub returns-in-Some : goal.returns-in-Some
returns-in-Some c = ap (λ texts. number_of texts c.args.text.now) (sym c.self.view_is) ∙ sym (position-is c.self.inside.texts.keys c.args.text.now) ∙ sym c.in-Some.ensures.index

pub returns-in-None : goal.returns-in-None
returns-in-None c = ap (λ texts. number_of texts c.args.text.now) (sym c.self.view_is) ∙ sym (position-is c.self.inside.texts.keys c.args.text.now) ∙ sym c.in-None.ensures.index
