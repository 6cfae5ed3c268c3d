use Rattle.ps_resolve.proofs.FaultProcedures.{knows_new, knows_old}
use Rattle.ps_resolve.proofs.faults.add_procedure.Goals as goal

pub returns-in_ok-push-clause-knows : goal.returns-in_ok-push-clause-knows
returns-in_ok-push-clause-knows c = λ heads h knows is.
    knows_new heads h c.args.procedures.now c.args.names.now c.args.definition.now knows is c.add_new.new.names c.in_ok-add_new.field-0 c.in_ok-add_new.ensures c.push.new.self c.if-branch.true c.in_ok-push.ensures.ok

pub returns-else-branch-clause-knows : goal.returns-else-branch-clause-knows
returns-else-branch-clause-knows c = λ heads h knows is.
    knows_old heads h c.args.procedures.now c.args.names.now c.args.definition.now knows is c.add_new.new.names c.in_ok-add_new.field-0 c.in_ok-add_new.ensures c.if-branch.false
