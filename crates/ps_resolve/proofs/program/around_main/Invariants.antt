use Rattle.ps_resolve.proofs.Mains.{NoMainBelow}
use Rattle.ps_resolve.proofs.program.around_main.Given as goal

-- no form so far is that of `main`
abbrev pub invariant-loop-at : goal.invariant-loop-at
invariant-loop-at l = NoMainBelow l.names l.at l.forms
