use Rattle.std.proofs.Common.{◌≡◌, map, take}
use Rattle.ps_derived.specs.Seen.{idents, seen_loop_binding}
use Rattle.ps_derived.specs.Bindings.{loop_names_of}
use Rattle.ps_derived.proofs.bindings.loop_variables_of.Given as goal

abbrev pub invariant-loop-binding : goal.invariant-loop-binding
invariant-loop-binding l = idents l.ids ≡ loop_names_of (map seen_loop_binding (take l.binding-index l.bindings))
