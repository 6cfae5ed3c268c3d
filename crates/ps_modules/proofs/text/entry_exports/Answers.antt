use Rattle.std.proofs.Common.{rules, ◌≡◌, false}
use Rattle.std.specs.List.{list_any}
use Rattle.ps_modules.specs.Texts.{is_main}
use Rattle.ps_modules.specs.InsideTexts.{defined}
use Rattle.ps_modules.proofs.FormsDefine.{no_main, no_list}
use Rattle.ps_modules.proofs.text.entry_exports.Goals as goal

pub returns-else-lists_main : goal.returns-else-lists_main
returns-else-lists_main c =
    let fails : list_any (is_main c.args.names.now) c.in-Ok.exports ≡ false = search rules in
    no_main c.args.names.now (defined c.args.text.now) c.args.entry.now c.in-Ok.exports c.module.result c.module.ensures c.in-Ok.ensures fails

pub returns-in-Err : goal.returns-in-Err
returns-in-Err c = no_list c.args.names.now (defined c.args.text.now) c.args.entry.now c.in-Err.broken c.refusal_by.result c.refusal_by.ensures c.in-Err.ensures
