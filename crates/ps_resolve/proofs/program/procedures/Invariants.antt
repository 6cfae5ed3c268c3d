use Rattle.std.proofs.Common.{◌≡◌, map, take, Some}
use Rattle.ps_plain.specs.Forms.{all_some}
use Rattle.ps_resolve.specs.InsideDefinitions.{heads_in, procedure_among}
use Rattle.ps_resolve.proofs.program.procedures.Given as goal

-- the procedures so far
abbrev pub invariant-loop-definition : goal.invariant-loop-definition
invariant-loop-definition l = all_some (map (procedure_among l.names (heads_in l.definitions)) (take l.definition-index l.definitions)) ≡ Some l.procedures
