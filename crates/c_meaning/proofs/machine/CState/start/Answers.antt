-- The state at the start stands at the first statement.
use Rattle.std.proofs.Common.{rules, sym, subst}
use Rattle.c_meaning.specs.Steps.{Stands}
use Rattle.c_meaning.proofs.StepsAreTheMachines.{starts-stand}
use Rattle.c_meaning.proofs.machine.CState.start.Goals as goal

pub returns-clause-stands : goal.returns-clause-stands
returns-clause-stands c = subst (Stands c.args.unit.now) (sym (search rules)) (starts-stand c.args.unit.now c.requires)
