-- A call enters its function.
use Rattle.std.proofs.Common.{rules}
use Rattle.c_meaning.proofs.FramesFollow.{call-goes}
use Rattle.c_meaning.proofs.perform.perform_call.Goals as goal

pub returns-in-Ok-enter : goal.returns-in-Ok-enter
returns-in-Ok-enter c =
    call-goes c.args.unit.now c.args.state.now c.enter.new.state c.args.target c.args.function c.args.arguments.now c.in-Some.callee.now c.in-Ok.locals (search rules) (search rules) (search rules) c.in-Ok-enter.ensures
