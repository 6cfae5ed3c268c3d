use Rattle.ps_modules.proofs.NamesLead.{LeadsSo}
use Rattle.ps_modules.proofs.text.exports_of.Given as goal

abbrev pub invariant-loop-step : goal.invariant-loop-step
invariant-loop-step l = LeadsSo l.fn.text.definitions l.fn.interface l.seen l.at l._step
