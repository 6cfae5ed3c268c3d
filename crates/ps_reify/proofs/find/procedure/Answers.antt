use Rattle.std.proofs.Common.{None, ◌∙◌}
use Rattle.ps_reify.proofs.ListsGoOn.{none_entry, some_entry}
use Rattle.ps_reify.proofs.find.procedure.Goals as goal

pub returns-in-None : goal.returns-in-None
returns-in-None g c = none_entry c.args.image.now.procedures c.args.g None c.in-None.ensures.value ∙ c.requires.image.procedures c.args.g

pub returns-in-Some : goal.returns-in-Some
returns-in-Some g c = some_entry c.args.image.now.procedures c.args.g None c.in-Some.lambda.now c.in-Some.ensures.value ∙ c.requires.image.procedures c.args.g
