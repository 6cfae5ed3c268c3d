use Rattle.std.proofs.Common.{◌≡◌, ◌∷◌, ◌++◌, [], None, nat_eq, ap, ◌∙◌}
use Rattle.indexmap.specs.IndexMap.{get}
use Rattle.indexmap.proofs.CallerLemmas.{insert_entry-new}
use Rattle.ps_modules.specs.Openings.{owner_of}
use Rattle.ps_modules.proofs.NamesAreTaken.{owner-is}
use Rattle.ps_modules.proofs.openings.Known.push.Goals as goal

pub returns : goal.returns
returns c =
    let m = c.self.inside.owners in
    let none : get nat_eq m c.args.name ≡ None = owner-is m.entries c.args.name ∙ ap (λ es. owner_of es c.args.name) c.self.view_is ∙ c.requires in
    c.in_ok-insert.ensures.entries ∙ insert_entry-new nat_eq m c.args.name c.args.owner none ∙ ap (λ es. es ++ (c.args.name, c.args.owner) ∷ []) c.self.view_is
