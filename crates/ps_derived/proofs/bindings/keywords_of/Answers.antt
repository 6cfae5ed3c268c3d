use Rattle.std.proofs.Common.{refl}
use Rattle.ps_pattern.proofs.Rests.{got}
use Rattle.ps_derived.specs.Seen.{seen_macro}
use Rattle.ps_derived.proofs.Gathering.{named}
use Rattle.ps_derived.proofs.bindings.keywords_of.Goals as goal

pub loop-rules-preserved : goal.loop-rules-preserved
loop-rules-preserved c = named seen_macro (λ x. x.keyword) (λ id. id.now) c.args.macros.now c.loop-rules.rules-index c.rules-item.result c.loop-rules.ids c.push.new.self _ (got c.args.macros.now c.loop-rules.rules-index c.rules-item.result c.loop-rules-test.true c.rules-item.is) c.loop-rules.invariant refl c.in_ok-push.ensures.ok
