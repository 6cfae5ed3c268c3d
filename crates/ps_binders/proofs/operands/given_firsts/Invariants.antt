use Rattle.std.proofs.Common.{◌≡◌, ◌++◌, drop, map}
use Rattle.ps_derived.specs.Seen.{seen_loop_binding}
use Rattle.ps_plans.specs.Parts.{givens}
use Rattle.ps_plans.specs.Seen.{seen_operands}
use Rattle.ps_binders.specs.Binders.{firsts}
use Rattle.ps_binders.proofs.operands.given_firsts.Given as goal

abbrev pub invariant-loop-binding : goal.invariant-loop-binding
invariant-loop-binding l =
    seen_operands l.operands.items ++ givens (firsts (map seen_loop_binding (drop l.binding-index l.bindings)))
    ≡ givens (firsts (map seen_loop_binding l.bindings))
