use Rattle.std.proofs.Common.{arith, ◌-◌}
use Rattle.ps_reify.proofs.TablesTellDefinitions.{noted_table}
use Rattle.ps_reify.proofs.image.procedures.Goals as goal

pub loop-i-preserved : goal.loop-i-preserved
loop-i-preserved c = record {
  within = omega (arith, c.loop-i.invariant.within);
  table = noted_table c.args.count c.args.forms.now c.loop-i.i (c.loop-i.i - 1) c.index-forms-i.result c.loop-i.table c.note.new.table (omega (arith, c.loop-i-test.true)) (omega (arith, c.loop-i-test.true, c.loop-i.invariant.within)) c.index-forms-i.is c.loop-i.invariant.table c.note.ensures;
}
