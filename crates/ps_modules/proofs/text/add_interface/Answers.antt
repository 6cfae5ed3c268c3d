use Rattle.std.proofs.Common.{ap, ◌∙◌}
use Rattle.std.specs.Prelude.{is_some}
use Rattle.ps_modules.proofs.FormsDefine.{definition_twice}
use Rattle.ps_modules.proofs.text.add_interface.Goals as goal

pub returns-then-is_some : goal.returns-then-is_some
returns-then-is_some c = definition_twice c.args.names.now c.args.text.now c.requires.indexed c.args.definition c.is_some.result (c.is_some.ensures ∙ ap is_some c.place.ensures.is) c.module.result c.module.ensures c.if-is_some.true
