use Rattle.ps_resolve.proofs.Mains.{no_form}
use Rattle.ps_resolve.proofs.program.around_main.Goals as goal

pub returns : goal.returns
returns c = no_form c.args.names.now c.args.forms.now c.loop-at.at c.loop-at-test.false c.loop-at.invariant
