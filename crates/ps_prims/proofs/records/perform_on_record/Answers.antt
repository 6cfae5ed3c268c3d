use Rattle.ps_prims.specs.declared.stages.Stage.TheVariants.{Compile}
use Rattle.ps_prims.proofs.records.perform_on_record.Goals as goal

pub returns-in-Maker-clause-row : goal.returns-in-Maker-clause-row
returns-in-Maker-clause-row g c = rw c.in-Maker.is c.perform_maker.ensures

pub returns-in-Predicate-clause-row : goal.returns-in-Predicate-clause-row
returns-in-Predicate-clause-row g c = rw c.in-Predicate.is ((c.perform_predicate.ensures c.args.stage c.args.events.now).1 c.args.world.now)

pub returns-in-Predicate-clause-memory : goal.returns-in-Predicate-clause-memory
returns-in-Predicate-clause-memory g c = rw c.in-Predicate.is (c.perform_predicate.ensures Compile c.args.events.now).0

pub returns-in-Accessor-clause-row : goal.returns-in-Accessor-clause-row
returns-in-Accessor-clause-row g c = rw c.in-Accessor.is (c.perform_accessor.ensures.1 c.args.world.now)

pub returns-in-Modifier-clause-row : goal.returns-in-Modifier-clause-row
returns-in-Modifier-clause-row g c = rw c.in-Modifier.is (c.perform_modifier.ensures.1 c.args.world.now)
