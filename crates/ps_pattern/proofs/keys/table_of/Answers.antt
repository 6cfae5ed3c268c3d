use Rattle.std.proofs.Common.{rules, [], sym}
use Rattle.ps_pattern.specs.Compiling.{table_of}
use Rattle.ps_pattern.proofs.Rests.{got}
use Rattle.ps_pattern.proofs.Tables.{table_next, table_none}
use Rattle.ps_pattern.proofs.keys.table_of.Goals as goal

pub returns-then-not-is_new : goal.returns-then-not-is_new
returns-then-not-is_new c = sym (table_none c.loop-var.keys (table_of [] c.args.vars.now) c.args.vars.now c.loop-var.var-index c.var-item.result c.in_ok-is_new.is_new (got c.args.vars.now c.loop-var.var-index c.var-item.result c.loop-var-test.true c.var-item.is) c.loop-var.invariant c.in_ok-is_new.ensures.told (search rules))

pub loop-var-preserved : goal.loop-var-preserved
loop-var-preserved c = table_next c.loop-var.keys c.add.new.self (table_of [] c.args.vars.now) c.args.vars.now c.loop-var.var-index c.var-item.result c.in_ok-is_new.is_new (got c.args.vars.now c.loop-var.var-index c.var-item.result c.loop-var-test.true c.var-item.is) c.loop-var.invariant c.in_ok-is_new.ensures.told (search rules) c.in_ok-is_new.ensures.added
