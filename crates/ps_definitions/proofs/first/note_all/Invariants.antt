use Rattle.std.proofs.Common.{◌≡◌, ◌-◌, []}
use Rattle.std.specs.Prelude.{reverse}
use Rattle.ps_expansion.specs.Does.{state_of, task_of}
use Rattle.ps_definitions.specs.Definitions.{first_pass, passing}
use Rattle.ps_definitions.proofs.first.note_all.Given as goal

abbrev pub invariant-loop-step : goal.invariant-loop-step
invariant-loop-step l = record {
  same : l.state.hygiene.here ≡ l.fn.state.hygiene.here;
  goes_on : first_pass (task_of l.task) l.fn.state.hygiene.here (l.steps - l.step) (passing l.noted (reverse l.stack)) (state_of l.state)
      ≡ first_pass (task_of l.task) l.fn.state.hygiene.here l.steps (passing [] (reverse l.fn.forms)) (state_of l.fn.state);
}
