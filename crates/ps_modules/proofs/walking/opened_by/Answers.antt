use Rattle.ps_modules.proofs.OpenedNamesLead.{meant_all}
use Rattle.ps_modules.proofs.walking.opened_by.Goals as goal

pub returns : goal.returns
returns c = meant_all _ _ _ _ _ c.loop-name.name-index c.loop-name.invariant c.loop-name-test.false
