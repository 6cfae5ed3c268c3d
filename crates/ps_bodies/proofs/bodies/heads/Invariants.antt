use Rattle.std.proofs.Common.{◌≡◌, [], drop}
use Rattle.ps_expansion.specs.Does.{state_of, task_of}
use Rattle.ps_bodies.specs.Bodies.{heads}
use Rattle.ps_bodies.specs.InsideBodies.{held_forms}
use Rattle.ps_bodies.proofs.bodies.heads.Given as goal

-- the heads from here on, behind those that were read, are all
abbrev pub invariant-loop-i : goal.invariant-loop-i
invariant-loop-i l =
    heads (task_of l.task) l.at (drop l.i l.forms) l.state.hygiene.here (held_forms l.definitions.items) l.locals (state_of l.state)
    ≡ heads (task_of l.task) l.at l.forms l.fn.state.hygiene.here [] [] (state_of l.fn.state)
