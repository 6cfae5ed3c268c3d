use Rattle.std.proofs.Common.{Err, subst}
use Rattle.ps_modules.specs.InsideWalking.{OpensAre}
use Rattle.ps_modules.specs.Walking.{opened_by}
use Rattle.ps_modules.proofs.OpenedNamesLead.{left_stuck}
use Rattle.ps_modules.proofs.walking.leave.Goals as goal

pub returns-in-Err : goal.returns-in-Err
returns-in-Err g c =
    let h : OpensAre c.args.names.now c.args.order.now (opened_by c.args.names.now c.args.text.now.shapes c.args.walked.now c.args.shape.now.clauses.opens) (Err c.in-Err.refusal)
    = subst (λ o. OpensAre c.args.names.now o (opened_by c.args.names.now c.args.text.now.shapes c.args.walked.now c.args.shape.now.clauses.opens) (Err c.in-Err.refusal)) c.as_slice.ensures c.in-Err.ensures in
    left_stuck c.args.text.now.shapes c.args.limits.now c.args.shape.now c.args.exports (record { walked = c.args.walked.now; order = c.args.order.now; count = c.args.count; table = c.args.names.now }) _ c.in-Err.refusal h c.args.names.now
