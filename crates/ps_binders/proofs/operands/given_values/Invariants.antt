use Rattle.std.proofs.Common.{◌≡◌, ◌++◌, drop, map}
use Rattle.ps_calls.specs.Applied.{values_in}
use Rattle.ps_derived.specs.Seen.{seen_binding}
use Rattle.ps_plans.specs.Parts.{givens}
use Rattle.ps_plans.specs.Seen.{seen_operands}
use Rattle.ps_binders.proofs.operands.given_values.Given as goal

abbrev pub invariant-loop-binding : goal.invariant-loop-binding
invariant-loop-binding l =
    seen_operands l.operands.items ++ givens (values_in (map seen_binding (drop l.binding-index l.bindings)))
    ≡ givens (values_in (map seen_binding l.bindings))
