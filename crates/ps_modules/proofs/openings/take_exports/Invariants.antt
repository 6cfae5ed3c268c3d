use Rattle.std.proofs.Common.{Some}
use Rattle.ps_modules.specs.Openings.{given_by, names_of}
use Rattle.ps_modules.proofs.NamesAreTaken.{TakenSo}
use Rattle.ps_modules.proofs.openings.take_exports.Given as goal

abbrev pub invariant-loop-export : goal.invariant-loop-export
invariant-loop-export l = TakenSo (λ es. given_by (Some l.fn.structure) (names_of es)) l.fn.exports l.fn.known l.known l.export-index
