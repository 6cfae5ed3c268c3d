use Rattle.ps_modules.proofs.NamesAreTaken.{OpenedSo}
use Rattle.ps_modules.proofs.openings.two_opened.Given as goal

abbrev pub invariant-loop-meant : goal.invariant-loop-meant
invariant-loop-meant l = OpenedSo l.fn.names l.fn.order l.fn.meants l.known l.meant-index
