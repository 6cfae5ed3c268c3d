use Rattle.ps_prims.proofs.makes.perform_make.Goals as goal

pub returns-in-Vector-default : goal.returns-in-Vector-default
returns-in-Vector-default g c = rw c.in-Vector-default.is-0 c.perform_make_vector.ensures

pub returns-in-Memory-Run : goal.returns-in-Memory-Run
returns-in-Memory-Run g c = rw (c.in-Memory-Run.is-0, c.in-Memory-Run.is-1) c.perform_allocate_memory.ensures

pub returns-in-String-Compile : goal.returns-in-String-Compile
returns-in-String-Compile g c = rw (c.in-String-Compile.is-0, c.in-String-Compile.is-1) (c.perform_string_append.ensures c.args.world.now c.args.events.now)

pub returns-in-StringEqual-default : goal.returns-in-StringEqual-default
returns-in-StringEqual-default g c = rw c.in-StringEqual-default.is-0 (c.perform_string_equal.ensures c.args.stage c.args.world.now c.args.events.now)
