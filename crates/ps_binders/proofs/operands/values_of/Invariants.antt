use Rattle.std.proofs.Common.{◌≡◌, ◌++◌, drop, map}
use Rattle.ps_calls.specs.Applied.{values_in}
use Rattle.ps_derived.specs.Seen.{seen_binding}
use Rattle.ps_binders.proofs.operands.values_of.Given as goal

abbrev pub invariant-loop-binding : goal.invariant-loop-binding
invariant-loop-binding l =
    map (λ f. f.now) l.values.items ++ values_in (map seen_binding (drop l.binding-index l.bindings))
    ≡ values_in (map seen_binding l.bindings)
