use Rattle.std.proofs.Common.{◌≡◌, map, take, Some}
use Rattle.ps_pattern.specs.Matching.{collect}
use Rattle.ps_derived.specs.Bindings.{binding_at}
use Rattle.ps_derived.specs.Seen.{seen_binding}
use Rattle.ps_derived.proofs.bindings.bindings_in.Given as goal

abbrev pub invariant-loop-form : goal.invariant-loop-form
invariant-loop-form l = collect (map binding_at (take l.form-index l.forms)) ≡ Some (map seen_binding l.all)
