use Rattle.std.proofs.Common.{◌≡◌, map, take, Some}
use Rattle.ps_pattern.specs.Matching.{collect}
use Rattle.ps_derived.specs.Bindings.{loop_binding_at}
use Rattle.ps_derived.specs.Seen.{seen_loop_binding}
use Rattle.ps_derived.proofs.bindings.loop_bindings_in.Given as goal

abbrev pub invariant-loop-form : goal.invariant-loop-form
invariant-loop-form l = collect (map loop_binding_at (take l.form-index l.forms)) ≡ Some (map seen_loop_binding l.all)
