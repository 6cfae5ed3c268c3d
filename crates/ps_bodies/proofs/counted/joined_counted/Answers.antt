use Rattle.std.proofs.lemmas.Result.{err_from_is_err_and}
use Rattle.std.proofs.Common.{◌∙◌}
use Rattle.ps_expansion.specs.Does.{state_of}
use Rattle.ps_bodies.proofs.CountedInTurn.{one_refused, one_counted}
use Rattle.ps_bodies.proofs.counted.joined_counted.Goals as goal

pub returns-in_err-join_counted : goal.returns-in_err-join_counted
returns-in_err-join_counted c =
    let q = err_from_is_err_and c.from_residual.result c.from_residual.ensures.1 in
    let l = c.loop-label in
    let now = c.join_counted.new.state in
    rw (q.1, q.2) (one_refused c.args.task.now.limits.now l.left c.args.at c.args.rest.now l._label-index (state_of l.state) _
    c.in_err-join_counted.field-0.0 l.state.hygiene.here c.args.state.now.hygiene.here now now c.loop-label-test.true l.invariant.all
    c.in_err-join_counted.ensures)

pub loop-label-preserved : goal.loop-label-preserved
loop-label-preserved c =
    let l = c.loop-label in
    record {
      all = one_counted c.args.task.now.limits.now l.left c.saturating_sub-left.result c.args.at c.args.rest.now l._label-index
          (state_of l.state) (state_of c.join_counted.new.state) _ c.loop-label-test.true c.saturating_sub-left.ensures l.invariant.all
          c.in_ok-join_counted.ensures.wanted;
      here = c.in_ok-join_counted.ensures.same ∙ l.invariant.here;
    }
