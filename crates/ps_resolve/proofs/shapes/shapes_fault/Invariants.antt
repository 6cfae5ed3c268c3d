use Rattle.std.proofs.Common.{◌≡◌, drop}
use Rattle.ps_plain.specs.Faults.{shapes_fault}
use Rattle.ps_resolve.proofs.shapes.shapes_fault.Given as goal

-- the search of what is left gives the same
abbrev pub invariant-loop-form : goal.invariant-loop-form
invariant-loop-form l = shapes_fault l.names (drop l.form-index l.forms) ≡ shapes_fault l.names l.forms
