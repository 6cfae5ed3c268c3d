use Rattle.std.proofs.Common.{rules, ◌≡◌, [], Some, refl, ap, ◌∙◌}
use Rattle.ps_modules.specs.Openings.{two_opened}
use Rattle.ps_modules.specs.Walking.{opened_by}
use Rattle.ps_modules.proofs.OpenedNamesLead.{opens_differ}
use Rattle.ps_modules.proofs.walking.opens_of_shape.Goals as goal

pub returns-in-Ok-Some : goal.returns-in-Ok-Some
returns-in-Ok-Some c =
    let clash : Some c.in-Ok-Some.place ≡ two_opened c.args.names.now c.args.order.now [] c.in-Ok.meants = search rules in
    opens_differ c.args.names.now c.args.order.now c.in-Ok.meants _ (c.in-Ok.ensures ∙ ap (opened_by c.args.names.now c.args.text.now.shapes c.args.walked.now) c.as_slice.ensures) (Some c.in-Ok-Some.place) c.in-Ok-Some.place clash refl c.module.result c.module.ensures
