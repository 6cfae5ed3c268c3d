use Rattle.std.proofs.Common.{◌≡◌, map, take, Some}
use Rattle.ps_pattern.specs.Matching.{collect}
use Rattle.ps_derived.specs.Bindings.{macro_at}
use Rattle.ps_derived.specs.Seen.{seen_macro}
use Rattle.ps_derived.proofs.bindings.macros_in.Given as goal

abbrev pub invariant-loop-form : goal.invariant-loop-form
invariant-loop-form l = collect (map macro_at (take l.form-index l.forms)) ≡ Some (map seen_macro l.all)
