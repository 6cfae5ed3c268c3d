use Rattle.std.proofs.Common.{rules, [], sym}
use Rattle.ps_pattern.proofs.Rests.{got}
use Rattle.ps_derived.specs.Distinct.{none_twice}
use Rattle.ps_derived.specs.Seen.{idents}
use Rattle.ps_derived.proofs.Different.{next, twice, mapped}
use Rattle.ps_derived.proofs.distinct.are_distinct.Goals as goal

pub returns-then-not-is_new : goal.returns-then-not-is_new
returns-then-not-is_new c = sym (twice c.loop-id.keys (none_twice [] (idents c.args.ids.now)) (idents c.args.ids.now) c.loop-id.id-index c.id-item.result.now c.in_ok-is_new.is_new (mapped (λ id. id.now) c.args.ids.now c.loop-id.id-index c.id-item.result (got c.args.ids.now c.loop-id.id-index c.id-item.result c.loop-id-test.true c.id-item.is)) c.loop-id.invariant c.in_ok-is_new.ensures.told (search rules))

pub loop-id-preserved : goal.loop-id-preserved
loop-id-preserved c = next c.loop-id.keys c.add.new.self (none_twice [] (idents c.args.ids.now)) (idents c.args.ids.now) c.loop-id.id-index c.id-item.result.now c.in_ok-is_new.is_new (mapped (λ id. id.now) c.args.ids.now c.loop-id.id-index c.id-item.result (got c.args.ids.now c.loop-id.id-index c.id-item.result c.loop-id-test.true c.id-item.is)) c.loop-id.invariant c.in_ok-is_new.ensures.told (search rules) c.in_ok-is_new.ensures.added
