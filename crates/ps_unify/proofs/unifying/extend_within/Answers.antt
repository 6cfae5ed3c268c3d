use Rattle.ps_unify.proofs.StepsComeToTheirEnd.{unified, outgrown}
use Rattle.ps_unify.proofs.unifying.extend_within.Goals as goal

pub returns-in-Some-clause-ok : goal.returns-in-Some-clause-ok
returns-in-Some-clause-ok c = unified c.args.s.now c.args.a.now c.args.b.now 1 c.args.limit c.equalize.new.s c.in-Ok.field-0 c.in-Ok.ensures

pub returns-in-None-clause-large : goal.returns-in-None-clause-large
returns-in-None-clause-large c = λ e. outgrown c.args.s.now c.args.a.now c.args.b.now 1 c.args.limit c.equalize.new.s c.in-Ok.field-0 c.args.limit c.in-Ok.ensures c.in-None.ensures
