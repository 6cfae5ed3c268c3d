use Rattle.std.proofs.Common.{◌≡◌, ◌-◌}
use Rattle.ps_expansion.specs.Does.{state_of, task_of}
use Rattle.ps_calls.specs.Calls.{nodes_down}
use Rattle.ps_calls.proofs.primitive.nodes_down.Given as goal

-- the nodes from here on, behind those that were made, are all
abbrev pub invariant-nodes : goal.invariant-nodes
invariant-nodes l = record {
  here : l.state.hygiene.here ≡ l.fn.state.hygiene.here;
  so_far : nodes_down (task_of l.task) (l.count - l.counter) l.lower l.at (state_of l.state)
      ≡ nodes_down (task_of l.task) l.count l.left l.at (state_of l.fn.state);
}
