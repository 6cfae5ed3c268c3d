use Rattle.std.proofs.lemmas.Result.{err_from_is_err_and}
use Rattle.ps_expansion.specs.Does.{state_of, task_of}
use Rattle.ps_expansion.specs.Settled.{held_form}
use Rattle.ps_bodies.specs.InsideBodies.{held_forms}
use Rattle.ps_bodies.proofs.HeadsAreRead.{head_is_refused}
use Rattle.ps_bodies.proofs.bodies.heads.Goals as goal

pub returns-in_err-local : goal.returns-in_err-local
returns-in_err-local c =
    let q = err_from_is_err_and c.from_residual-in_err-local.result c.from_residual-in_err-local.ensures.1 in
    let l = c.loop-i in
    let settled = c.settled.new.self in
    let defines = c.head_defines.new.state in
    rw (q.1, q.2) (head_is_refused (task_of c.args.task.now) c.args.at c.args.forms.now l.i c.len.result c.index-forms-i.result
    (held_form c.in_ok-first.first) c.form.result.now c.form-in-loop-i.result.now
    l.state.hygiene.here settled.hygiene.here (held_forms l.definitions.items) l.locals (state_of l.state) (state_of settled)
    c.is_define.result c.in_err-local.field-0.0 _ defines defines
    c.loop-i-test.true c.index-forms-i.is c.in_ok-first.ensures.wanted c.in_ok-first.ensures.same
    c.form.ensures c.is_define.ensures c.if-not-is_define.false c.len.ensures c.form-in-loop-i.ensures c.in_err-local.ensures l.invariant)
