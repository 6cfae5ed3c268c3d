use Rattle.std.proofs.Common.{[]}
use Rattle.ps_pattern.specs.Identifiers.{all_keys}
use Rattle.ps_pattern.proofs.Rests.{got}
use Rattle.ps_pattern.proofs.Tables.{keys_next}
use Rattle.ps_derived.specs.Seen.{idents}
use Rattle.ps_derived.proofs.Different.{mapped}
use Rattle.ps_derived.proofs.records.table_of.Goals as goal

pub loop-name-preserved : goal.loop-name-preserved
loop-name-preserved c = keys_next c.loop-name.keys c.add.new.self (all_keys [] (idents c.args.names.now)) (idents c.args.names.now) c.loop-name.name-index c.name-item.result.now (mapped (λ id. id.now) c.args.names.now c.loop-name.name-index c.name-item.result (got c.args.names.now c.loop-name.name-index c.name-item.result c.loop-name-test.true c.name-item.is)) c.loop-name.invariant c.in_ok-add.ensures.added
