-- A return is performed as the machine does it.
use Rattle.std.proofs.Common.{sym, subst}
use Rattle.c_meaning.specs.InsideSteps.{Performs}
use Rattle.c_meaning.proofs.machine.perform.Goals as goal

pub returns-in-Return : goal.returns-in-Return
returns-in-Return c =
    subst (λ t. Performs c.perform_return.result c.args.unit.now t c.args.state.now c.perform_return.new.state c.args.world.now c.args.world.now c.args.events.now c.args.events.now) (sym c.in-Return.is)
    (c.perform_return.ensures c.args.unit.now c.args.world.now c.args.events.now)
