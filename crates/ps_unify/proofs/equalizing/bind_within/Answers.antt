use Rattle.ps_unify.proofs.StepsComeToTheirEnd.{occurs, outgrows, binds}
use Rattle.ps_unify.proofs.equalizing.bind_within.Goals as goal

pub returns-in-Found : goal.returns-in-Found
returns-in-Found c = occurs c.args.s.now c.args.x c.args.t.now c.args.room c.requires.solved c.requires.headed c.requires.other c.in-Found.ensures.told

pub returns-in-Ok : goal.returns-in-Ok
returns-in-Ok c = binds c.args.s.now c.args.x c.args.t.now c.args.room c.requires.solved c.requires.free c.requires.headed c.in-Left.ensures.told.0 c.in-Left.left c.in-Left.ensures.told.1 c.bind.new.self c.in-Ok.ensures.ok

pub returns-in-Spent : goal.returns-in-Spent
returns-in-Spent c = outgrows c.args.s.now c.args.x c.args.t.now c.args.room c.in-Spent.ensures.told
