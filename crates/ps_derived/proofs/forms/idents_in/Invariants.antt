use Rattle.std.proofs.Common.{◌≡◌, map, take, Some}
use Rattle.ps_pattern.specs.Matching.{collect}
use Rattle.ps_pattern.specs.Compiling.{ident_at}
use Rattle.ps_derived.proofs.forms.idents_in.Given as goal

abbrev pub invariant-loop-form : goal.invariant-loop-form
invariant-loop-form l = collect (map ident_at (take l.form-index l.forms)) ≡ Some (map (λ id. id.now) l.ids)
