use Rattle.ps_evaluator.proofs.Performs.{answers, undefined, wrong}
use Rattle.ps_evaluator.proofs.acts.perform_row.Goals as goal

pub returns-in-Value-clause-same : goal.returns-in-Value-clause-same
returns-in-Value-clause-same c = λ f. answers c.args.kernel.now c.args.at c.args.p c.args.operands.now c.args.machine.now c.perform.new.store c.perform.new.world c.perform.new.events c.requires.belongs c.in-Value.v c.in-Value.ensures

pub returns-in-Undefined-clause-same : goal.returns-in-Undefined-clause-same
returns-in-Undefined-clause-same c = λ f. undefined c.args.kernel.now c.args.at c.args.p c.args.operands.now c.args.machine.now c.perform.new.store c.perform.new.world c.perform.new.events c.requires.belongs c.in-Undefined.op c.in-Undefined.ensures

pub returns-in-Wrong-clause-same : goal.returns-in-Wrong-clause-same
returns-in-Wrong-clause-same c = λ f. wrong c.args.kernel.now c.args.at c.args.p c.args.operands.now c.args.machine.now c.perform.new.store c.perform.new.world c.perform.new.events c.requires.belongs c.in-Wrong.ensures
