use Rattle.std.proofs.Common.{◌≡◌, [], drop, map}
use Rattle.ps_expansion.specs.Does.{state_of, task_of}
use Rattle.ps_bodies.specs.Bodies.{decided_forms}
use Rattle.ps_bodies.specs.InsideBodies.{seen_members}
use Rattle.ps_bodies.proofs.bodies.decided_forms.Given as goal

-- the values from here on, behind those that were decided, are all
abbrev pub invariant-loop-form : goal.invariant-loop-form
invariant-loop-form l = record {
  all : decided_forms (task_of l.task) l.state.hygiene.here (map (λ f. f.now) (drop l.form-index l.forms)) (seen_members l.members.items)
      (state_of l.state)
      ≡ decided_forms (task_of l.task) l.fn.state.hygiene.here (map (λ f. f.now) l.forms) [] (state_of l.fn.state);
  here : l.state.hygiene.here ≡ l.fn.state.hygiene.here;
}
