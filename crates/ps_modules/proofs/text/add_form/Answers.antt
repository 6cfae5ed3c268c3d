use Rattle.ps_modules.specs.InsideTexts.{defined}
use Rattle.ps_modules.specs.Shapes.{form}
use Rattle.ps_modules.proofs.FormsDefine.{form_breaks}
use Rattle.ps_modules.proofs.text.add_form.Goals as goal

pub returns-in-Err : goal.returns-in-Err
returns-in-Err c = form_breaks c.args.names.now (defined c.args.text.now) (form c.args.names.now c.args.d.now) c.in-Err.broken c.refusal_by.result c.refusal_by.ensures c.in-Err.ensures
