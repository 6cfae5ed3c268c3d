use Rattle.std.proofs.Common.{arith}
use Rattle.ps_types.specs.Substitutions.{apply}
use Rattle.ps_unify.specs.Bindings.{means}
use Rattle.ps_unify.proofs.BindingsStaySolved.{map_take_more, item_meant}
use Rattle.ps_unify.proofs.applying.+replacing.Goals as goal

pub replaced_all-replaced-requires : goal.replaced_all-replaced-requires
replaced_all-replaced-requires t c = (omega (arith, c.decreases, item_meant c.args.s.now c.args.types.now c.loop-t.t-index c.t-item.result c.loop-t-test.true c.t-item.is), c.requires)

pub replaced_all-loop-t-preserved : goal.replaced_all-loop-t-preserved
replaced_all-loop-t-preserved t c = map_take_more (apply (means c.args.s.now)) c.args.types.now c.loop-t.t-index c.t-item.result c.in_ok-replaced.field-0 c.loop-t.all c.push.new.self c.loop-t-test.true c.t-item.is c.in_ok-replaced.ensures c.loop-t.invariant c.in_ok-push.ensures.ok
