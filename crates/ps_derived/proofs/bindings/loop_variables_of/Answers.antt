use Rattle.std.proofs.Common.{refl}
use Rattle.ps_pattern.proofs.Rests.{got}
use Rattle.ps_derived.specs.Seen.{seen_loop_binding}
use Rattle.ps_derived.proofs.Gathering.{named}
use Rattle.ps_derived.proofs.bindings.loop_variables_of.Goals as goal

pub loop-binding-preserved : goal.loop-binding-preserved
loop-binding-preserved c = named seen_loop_binding (λ x. x.name) (λ id. id.now) c.args.bindings.now c.loop-binding.binding-index c.binding-item.result c.loop-binding.ids c.push.new.self _ (got c.args.bindings.now c.loop-binding.binding-index c.binding-item.result c.loop-binding-test.true c.binding-item.is) c.loop-binding.invariant refl c.in_ok-push.ensures.ok
