use Rattle.ps_show.specs.ShowText.{bare_constant}
use Rattle.ps_show.proofs.nodes.put_bare_constant.Goals as goal

pub returns-in-NullAddress : goal.returns-in-NullAddress
unfolding bare_constant
returns-in-NullAddress c = rw c.in-NullAddress.is c.put.ensures
