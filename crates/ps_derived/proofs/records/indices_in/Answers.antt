use Rattle.std.proofs.Common.{rules, sym}
use Rattle.ps_pattern.proofs.Lists.{collect_kept, collect_none}
use Rattle.ps_pattern.proofs.Rests.{got}
use Rattle.ps_derived.specs.Records.{index_in}
use Rattle.ps_derived.specs.Seen.{idents}
use Rattle.ps_derived.proofs.Different.{mapped}
use Rattle.ps_derived.proofs.records.indices_in.Goals as goal

pub returns-in-None : goal.returns-in-None
returns-in-None c = sym (collect_none (index_in c.args.keys.now) (idents c.args.ids.now) c.loop-id.id-index c.id-item.result.now (mapped (λ id. id.now) c.args.ids.now c.loop-id.id-index c.id-item.result (got c.args.ids.now c.loop-id.id-index c.id-item.result c.loop-id-test.true c.id-item.is)) (search rules))

pub loop-id-preserved : goal.loop-id-preserved
loop-id-preserved c = collect_kept (index_in c.args.keys.now) (idents c.args.ids.now) c.loop-id.id-index c.id-item.result.now c.loop-id.indices c.in-Some.index c.push.new.self (mapped (λ id. id.now) c.args.ids.now c.loop-id.id-index c.id-item.result (got c.args.ids.now c.loop-id.id-index c.id-item.result c.loop-id-test.true c.id-item.is)) c.loop-id.invariant (search rules) c.in_ok-push-in-Some.ensures.ok
