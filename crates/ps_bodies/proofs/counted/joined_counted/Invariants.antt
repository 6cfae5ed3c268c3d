use Rattle.std.proofs.Common.{◌≡◌, drop}
use Rattle.ps_expansion.specs.Does.{state_of}
use Rattle.ps_bodies.specs.Branches.{joined_counted}
use Rattle.ps_bodies.proofs.counted.joined_counted.Given as goal

-- the comparisons from here on are counted as all
abbrev pub invariant-loop-label : goal.invariant-loop-label
invariant-loop-label l = record {
  all : joined_counted l.task.limits.now l.left l.at (drop l._label-index l.rest) (state_of l.state)
      ≡ joined_counted l.task.limits.now l.fn.left l.at l.rest (state_of l.fn.state);
  here : l.state.hygiene.here ≡ l.fn.state.hygiene.here;
}
