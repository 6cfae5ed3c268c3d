use Rattle.std.proofs.Common.{ap, ◌∙◌}
use Rattle.ps_modules.specs.Openings.{owner_of}
use Rattle.ps_modules.proofs.NamesAreTaken.{owner-is}
use Rattle.ps_modules.proofs.openings.Known.owner.Goals as goal

pub returns-in-Some : goal.returns-in-Some
returns-in-Some c = c.in-Some.ensures.value ∙ owner-is c.self.inside.owners.entries c.args.name ∙ ap (λ es. owner_of es c.args.name) c.self.view_is

pub returns-in-None : goal.returns-in-None
returns-in-None c = c.in-None.ensures.value ∙ owner-is c.self.inside.owners.entries c.args.name ∙ ap (λ es. owner_of es c.args.name) c.self.view_is
