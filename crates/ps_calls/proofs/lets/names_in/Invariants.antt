use Rattle.std.proofs.Common.{◌≡◌, ◌++◌, drop, map}
use Rattle.ps_derived.specs.Seen.{idents, seen_binding}
use Rattle.ps_calls.specs.Applied.{names_in}
use Rattle.ps_calls.proofs.lets.names_in.Given as goal

abbrev pub invariant-loop-binding : goal.invariant-loop-binding
invariant-loop-binding l =
    idents l.names ++ names_in (map seen_binding (drop l.binding-index l.bindings))
    ≡ names_in (map seen_binding l.bindings)
