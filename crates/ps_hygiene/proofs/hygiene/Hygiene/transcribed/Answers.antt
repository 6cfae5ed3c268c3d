use Rattle.std.proofs.lemmas.Result.{err_from_is_err_and}
use Rattle.ps_hygiene.proofs.OneUse.{made, refused_so, never_begun}
use Rattle.ps_hygiene.proofs.hygiene.Hygiene.transcribed.Goals as goal

pub returns-in_err-stamp-clause-answer : goal.returns-in_err-stamp-clause-answer
returns-in_err-stamp-clause-answer c =
    let q = err_from_is_err_and c.from_residual.result c.from_residual.ensures.1 in
    rw (q.1, q.2) (never_begun c.args.limits.now c.args.self.now.here c.args.form.now c.args.number c.args.self.now.world c.in_err-stamp.field-0.0 c.begin.new.self c.begin.new.self c.args.self.now.here c.in_err-stamp.ensures.answer)

pub returns-in-Ok-clause-answer : goal.returns-in-Ok-clause-answer
returns-in-Ok-clause-answer c =
    let a = c.in_ok-stamp.ensures.answer in
    made c.args.limits.now c.args.self.now.here c.args.form.now c.args.number c.in_ok-stamp.stamp c.args.self.now.world c.begin.new.self.world a.wanted
    c.in-Ok.g c.accept.result c.begin.new.self.here c.accept.new.self a.same c.in-Ok.ensures c.accept.ensures.answer

pub returns-in-Err-clause-answer : goal.returns-in-Err-clause-answer
returns-in-Err-clause-answer c =
    let a = c.in_ok-stamp.ensures.answer in
    rw c.refused.ensures (refused_so c.args.limits.now c.args.self.now.here c.args.form.now c.args.number c.in_ok-stamp.stamp c.args.self.now.world c.begin.new.self.world a.wanted
    c.in-Err.fault c.begin.new.self.here c.begin.new.self a.same c.in-Err.ensures)
