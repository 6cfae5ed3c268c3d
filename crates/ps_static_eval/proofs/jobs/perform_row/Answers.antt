use Rattle.std.proofs.Common.{◌-◌, ℕ, sym, subst, arith}
use Rattle.ps_prims.specs.declared.stages.Stage.TheVariants.{Compile}
use Rattle.ps_prims.specs.Sorts.{first_order}
use Rattle.ps_meaning.specs.Eval.{operation}
use Rattle.ps_static_eval.specs.declared.machine.Ending.TheVariants as ending
use Rattle.ps_static_eval.specs.declared.machine.Halt.TheVariants.{Undefined, Wrong}
use Rattle.ps_static_eval.specs.InsideMachine.{Becomes, left}
use Rattle.ps_static_eval.proofs.PrimitivesAreCounted.{spent, answers, undefined, wrong}
use Rattle.ps_static_eval.proofs.jobs.perform_row.Goals as goal

pub returns-then-machine-asked-clause-same : goal.returns-then-machine-asked-clause-same
returns-then-machine-asked-clause-same g c = spent c.args.kernel.now c.args.at c.args.p c.args.operands.now (left c.args.machine.now) c.requires.belongs (omega (arith, c.cells_asked-asked.ensures, c.if-machine-asked.true))

pub returns-in-Value-clause-same : goal.returns-in-Value-clause-same
returns-in-Value-clause-same g c =
    subst (λ (n : ℕ). Becomes (operation c.args.kernel.now Compile first_order c.args.at c.args.p c.args.operands.now) (left c.args.machine.now) (ending.Gave c.in-Value.v) (record (left c.args.machine.now) { cells = c.args.machine.now.cells - n; store = c.perform_few.new.store; world = c.perform_few.new.world; events = c.perform_few.new.events })) (sym c.cells_asked-asked.ensures)
    (answers c.args.kernel.now c.args.at c.args.p c.args.operands.now (left c.args.machine.now) c.requires.belongs (omega (arith, c.cells_asked-asked.ensures, c.if-machine-asked.false)) c.perform_few.new.store c.perform_few.new.world c.perform_few.new.events c.in-Value.v c.in-Value.ensures.row)

pub returns-in-Undefined-clause-same : goal.returns-in-Undefined-clause-same
returns-in-Undefined-clause-same g c =
    subst (λ (n : ℕ). Becomes (operation c.args.kernel.now Compile first_order c.args.at c.args.p c.args.operands.now) (left c.args.machine.now) (ending.Halted (Undefined c.in-Undefined.op c.args.at)) (record (left c.args.machine.now) { cells = c.args.machine.now.cells - n; store = c.perform_few.new.store; world = c.perform_few.new.world; events = c.perform_few.new.events })) (sym c.cells_asked-asked.ensures)
    (undefined c.args.kernel.now c.args.at c.args.p c.args.operands.now (left c.args.machine.now) c.requires.belongs (omega (arith, c.cells_asked-asked.ensures, c.if-machine-asked.false)) c.perform_few.new.store c.perform_few.new.world c.perform_few.new.events c.in-Undefined.op c.in-Undefined.ensures.row)

pub returns-in-Wrong-clause-same : goal.returns-in-Wrong-clause-same
returns-in-Wrong-clause-same g c =
    subst (λ (n : ℕ). Becomes (operation c.args.kernel.now Compile first_order c.args.at c.args.p c.args.operands.now) (left c.args.machine.now) (ending.Halted (Wrong c.args.at)) (record (left c.args.machine.now) { cells = c.args.machine.now.cells - n; store = c.perform_few.new.store; world = c.perform_few.new.world; events = c.perform_few.new.events })) (sym c.cells_asked-asked.ensures)
    (wrong c.args.kernel.now c.args.at c.args.p c.args.operands.now (left c.args.machine.now) c.requires.belongs (omega (arith, c.cells_asked-asked.ensures, c.if-machine-asked.false)) c.perform_few.new.store c.perform_few.new.world c.perform_few.new.events c.in-Wrong.ensures.row)
