-- The state stands for the unit at each step.
use Rattle.c_meaning.specs.Steps.{Stands}
use Rattle.object_tests.proofs.machines.run.Given as goal

abbrev pub invariant-loop : goal.invariant-loop
invariant-loop l = Stands l.unit l.state
