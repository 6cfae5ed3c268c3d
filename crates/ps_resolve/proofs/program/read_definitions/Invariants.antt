use Rattle.std.proofs.Common.{List, ◌++◌, take}
use Rattle.ps_datum.specs.declared.datum.Datum.{Datum}
use Rattle.ps_resolve.specs.InsideDefinitions.{AreDefinitions}
use Rattle.ps_resolve.proofs.program.read_definitions.Given as goal

-- the definitions so far
abbrev pub invariant-loop-form : goal.invariant-loop-form
invariant-loop-form l = (done : List Datum) → AreDefinitions l.names done l.initial.definitions → AreDefinitions l.names (done ++ take l.form-index l.forms) l.definitions
