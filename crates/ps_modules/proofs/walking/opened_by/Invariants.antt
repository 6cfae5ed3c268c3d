use Rattle.ps_modules.proofs.OpenedNamesLead.{MeantSo}
use Rattle.ps_modules.proofs.walking.opened_by.Given as goal

abbrev pub invariant-loop-name : goal.invariant-loop-name
invariant-loop-name l = MeantSo l.fn.names l.fn.text.shapes l.fn.walked l.fn.opens l.meants l.name-index
