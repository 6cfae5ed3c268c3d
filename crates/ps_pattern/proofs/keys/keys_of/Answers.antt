use Rattle.std.proofs.Common.{[]}
use Rattle.ps_pattern.specs.Identifiers.{all_keys}
use Rattle.ps_pattern.proofs.Rests.{got}
use Rattle.ps_pattern.proofs.Tables.{keys_next}
use Rattle.ps_pattern.proofs.keys.keys_of.Goals as goal

pub loop-id-preserved : goal.loop-id-preserved
loop-id-preserved c = keys_next c.loop-id.keys c.add.new.self (all_keys [] c.args.ids.now) c.args.ids.now c.loop-id.id-index c.id-item.result (got c.args.ids.now c.loop-id.id-index c.id-item.result c.loop-id-test.true c.id-item.is) c.loop-id.invariant c.in_ok-add.ensures.added
