-- A step by code performs the next statement as the machine does, and leaves each frame at one of its function's statements.
use Rattle.std.proofs.Common.{rules}
use Rattle.c_meaning.proofs.StepsAreTheMachines.{step-declared, step-targets, step-steps, step-stands}
use Rattle.c_meaning.proofs.machine.step.Goals as goal

pub perform-requires-clause-declared : goal.perform-requires-clause-declared
perform-requires-clause-declared c = step-declared c.args.unit.now c.args.state.now c.statement_at-statement.result.now c.requires (search rules)

pub perform-requires-clause-targets : goal.perform-requires-clause-targets
perform-requires-clause-targets c = step-targets c.args.unit.now c.args.state.now.callers c.requires.waits

pub returns-clause-steps : goal.returns-clause-steps
returns-clause-steps c =
    step-steps c.args.unit.now c.args.state.now c.perform.new.state c.args.world.now c.perform.new.world c.args.events.now c.perform.new.events c.perform.result c.statement_at-statement.result.now (search rules) c.perform.ensures

pub returns-clause-stands : goal.returns-clause-stands
returns-clause-stands c = step-stands _ _ _ _ _ _ _ _ c.requires (returns-clause-steps c)
