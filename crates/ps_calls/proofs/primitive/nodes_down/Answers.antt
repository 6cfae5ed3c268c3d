use Rattle.std.proofs.Common.{◌≡◌, ◌∙◌, ℕ, suc, ◌+◌, ◌-◌, ◌<◌, ap, sym, arith}
use Rattle.std.proofs.lemmas.Result.{err_from_is_err_and}
use Rattle.ps_expansion.specs.Does.{state_of, task_of}
use Rattle.ps_calls.specs.Calls.{nodes_down}
use Rattle.ps_calls.proofs.NodesStandInNodes.{nodes_more, nodes_refused}
use Rattle.ps_calls.proofs.primitive.nodes_down.Goals as goal

pub nodes-preserved : goal.nodes-preserved
nodes-preserved c =
    let task = task_of c.args.task.now in
    let l = c.nodes in
    let behind = c.args.count - (l.counter + 1) in
    let some : l.counter < c.args.count = c.nodes-test.true in
    let one_more : c.args.count - l.counter ≡ suc behind = omega arith in
    record {
      here = c.in_ok-node.ensures.same ∙ l.invariant.here;
      so_far = ap (λ (k : ℕ). nodes_down task behind k c.args.at (state_of c.node.new.self)) c.saturating_sub-lower.ensures
          ∙ (sym (nodes_more task (c.args.count - l.counter) behind l.lower c.args.at (state_of l.state) (state_of c.node.new.self)
          one_more c.in_ok-node.ensures.wanted)
          ∙ l.invariant.so_far);
    }

pub returns-in_err-node : goal.returns-in_err-node
returns-in_err-node c =
    let task = task_of c.args.task.now in
    let l = c.nodes in
    let q = err_from_is_err_and c.from_residual.result c.from_residual.ensures.1 in
    let test : l.counter < c.args.count = c.nodes-test.true in
    let some : 0 < c.args.count - l.counter = omega arith in
    rw (q.1, q.2) (nodes_refused task c.args.count (c.args.count - l.counter) c.args.left l.lower c.args.at
    (state_of c.args.state.now) (state_of l.state) c.in_err-node.field-0.0 _
    c.args.state.now.hygiene.here c.node.new.self c.node.new.self some l.invariant.so_far c.in_err-node.ensures)
