use Rattle.ps_prims.specs.declared.stages.Stage.TheVariants.{Compile}
use Rattle.ps_prims.proofs.MakesAreTheRows.{room_for_block}
use Rattle.ps_prims.proofs.PerformsTheRow.{quiet_wants, wants, takes_at_run}
use Rattle.ps_prims.proofs.performing.perform_group.Goals as goal

pub perform_make-requires-clause-room : goal.perform_make-requires-clause-room
perform_make-requires-clause-room g c = room_for_block c.args.stage c.args.store.now (rw c.in-Make.is at c.requires.room)

pub returns-in-Look-clause-row : goal.returns-in-Look-clause-row
returns-in-Look-clause-row g c = rw c.in-Look.is (c.perform_look.ensures.1 c.args.world.now)

pub returns-in-Glance-clause-row : goal.returns-in-Glance-clause-row
returns-in-Glance-clause-row g c = rw c.in-Glance.is ((c.perform_glance.ensures c.args.stage c.args.events.now).1 c.args.world.now)

pub returns-in-Change-clause-row : goal.returns-in-Change-clause-row
returns-in-Change-clause-row g c = rw c.in-Change.is (c.perform_change.ensures.1 c.args.world.now)

pub returns-in-Make-clause-row : goal.returns-in-Make-clause-row
returns-in-Make-clause-row g c = rw c.in-Make.is c.perform_make.ensures

pub returns-in-ReadByte-clause-row : goal.returns-in-ReadByte-clause-row
returns-in-ReadByte-clause-row g c = rw c.in-ReadByte.is (c.perform_read_byte.ensures c.args.store.now)

pub returns-in-WriteByte-clause-row : goal.returns-in-WriteByte-clause-row
returns-in-WriteByte-clause-row g c = rw c.in-WriteByte.is (c.perform_write_byte.ensures c.args.store.now c.args.world.now)

pub returns-in-Arithmetic-clause-memory : goal.returns-in-Arithmetic-clause-memory
returns-in-Arithmetic-clause-memory g c = rw c.in-Arithmetic.is (quiet_wants _ c.perform_arithmetic.result c.perform_arithmetic.ensures)

pub returns-in-Division-clause-memory : goal.returns-in-Division-clause-memory
returns-in-Division-clause-memory g c = rw c.in-Division.is (quiet_wants _ c.perform_division.result c.perform_division.ensures)

pub returns-in-Shift-clause-memory : goal.returns-in-Shift-clause-memory
returns-in-Shift-clause-memory g c = rw c.in-Shift.is (quiet_wants _ c.perform_shift.result c.perform_shift.ensures)

pub returns-in-Comparison-clause-memory : goal.returns-in-Comparison-clause-memory
returns-in-Comparison-clause-memory g c = rw c.in-Comparison.is (quiet_wants _ c.perform_comparison.result c.perform_comparison.ensures)

pub returns-in-Sign-clause-memory : goal.returns-in-Sign-clause-memory
returns-in-Sign-clause-memory g c = rw c.in-Sign.is (quiet_wants _ c.perform_test.result c.perform_test.ensures)

pub returns-in-Plain-clause-memory : goal.returns-in-Plain-clause-memory
returns-in-Plain-clause-memory g c = rw c.in-Plain.is (quiet_wants _ c.perform_plain.result c.perform_plain.ensures)

pub returns-in-Look-clause-memory : goal.returns-in-Look-clause-memory
returns-in-Look-clause-memory g c = rw c.in-Look.is c.perform_look.ensures.0

pub returns-in-Glance-clause-memory : goal.returns-in-Glance-clause-memory
returns-in-Glance-clause-memory g c = rw c.in-Glance.is (c.perform_glance.ensures Compile c.args.events.now).0

pub returns-in-Change-clause-memory : goal.returns-in-Change-clause-memory
returns-in-Change-clause-memory g c = rw c.in-Change.is c.perform_change.ensures.0

pub returns-in-Make-clause-memory : goal.returns-in-Make-clause-memory
returns-in-Make-clause-memory g c = rw c.in-Make.is (wants c.perform_make.result (Unit {0}) tt)

pub returns-in-ReadByte-clause-memory : goal.returns-in-ReadByte-clause-memory
returns-in-ReadByte-clause-memory g c = rw c.in-ReadByte.is (wants c.perform_read_byte.result _ (takes_at_run c.args.stage (rw c.in-ReadByte.is at c.requires.belongs)))

pub returns-in-WriteByte-clause-memory : goal.returns-in-WriteByte-clause-memory
returns-in-WriteByte-clause-memory g c = rw c.in-WriteByte.is (wants c.perform_write_byte.result _ (takes_at_run c.args.stage (rw c.in-WriteByte.is at c.requires.belongs)))

pub returns-in-OnRecord-clause-row : goal.returns-in-OnRecord-clause-row
returns-in-OnRecord-clause-row g c = rw c.in-OnRecord.is c.perform_on_record.ensures.row
