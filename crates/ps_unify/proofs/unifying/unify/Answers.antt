use Rattle.ps_unify.proofs.StepsComeToTheirEnd.{unified, never_equal}
use Rattle.ps_unify.proofs.unifying.unify.Goals as goal

pub returns-in-Ok-clause-ok : goal.returns-in-Ok-clause-ok
returns-in-Ok-clause-ok c = unified c.args.s.now c.args.a.now c.args.b.now 1 18446744073709551615 c.equalize.new.s c.in-Ok.field-0 c.in-Ok.ensures

pub returns-in-Err-clause-unequal : goal.returns-in-Err-clause-unequal
returns-in-Err-clause-unequal c = λ is. never_equal c.args.s.now c.args.a.now c.args.b.now 1 18446744073709551615 c.equalize.new.s c.in-Err.e c.in-Err.ensures (c.fault_of.ensures is)
