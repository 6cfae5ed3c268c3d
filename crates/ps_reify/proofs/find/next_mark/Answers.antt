use Rattle.ps_survive.specs.declared.steps.Step.TheVariants as steps
use Rattle.ps_reify.proofs.ListsGoOn.{drop_map_at}
use Rattle.ps_reify.proofs.find.next_mark.Goals as goal

pub returns-then-i-marks : goal.returns-then-i-marks
returns-then-i-marks c = drop_map_at steps.Does c.args.marks.now c.args.i _ c.if-i-marks.true
