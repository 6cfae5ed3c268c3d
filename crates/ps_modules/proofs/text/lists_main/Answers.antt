use Rattle.std.proofs.Common.{◌∙◌, sym, arith}
use Rattle.ps_modules.specs.Texts.{is_main}
use Rattle.ps_modules.proofs.Gathering.{any_next, any_here, any_end, item_is}
use Rattle.ps_modules.proofs.text.lists_main.Goals as goal

pub returns-then-is_main : goal.returns-then-is_main
returns-then-is_main c = sym (c.loop-export.invariant ∙ any_here (is_main c.args.names.now) _ _ _ c.loop-export-test.true (item_is _ _ _ c.loop-export-test.true) (sym c.is_main.ensures ∙ c.if-is_main.true))

pub loop-export-preserved : goal.loop-export-preserved
loop-export-preserved c = c.loop-export.invariant ∙ any_next (is_main c.args.names.now) _ _ _ c.loop-export-test.true (item_is _ _ _ c.loop-export-test.true) (sym c.is_main.ensures ∙ c.if-is_main.false)

pub returns : goal.returns
returns c = sym (c.loop-export.invariant ∙ any_end (is_main c.args.names.now) c.args.exports.now c.loop-export.export-index (omega arith))
