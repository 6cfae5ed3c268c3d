use Rattle.std.proofs.Common.{◌≡◌, map, take, Some}
use Rattle.ps_plain.specs.Forms.{Part, part, all_some}
use Rattle.ps_resolve.specs.InsideValues.{scope_of}
use Rattle.ps_resolve.proofs.definition.writes.Given as goal

-- what was read so far
abbrev pub invariant-loop-form : goal.invariant-loop-form
invariant-loop-form l = all_some (map (λ (p : Part). p.write (scope_of l.scope)) (map (part l.scope.names.now) (take l.form-index l.forms))) ≡ Some l.writes
