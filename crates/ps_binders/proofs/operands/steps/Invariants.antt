use Rattle.std.proofs.Common.{◌≡◌, ◌++◌, drop, map}
use Rattle.ps_derived.specs.Seen.{seen_loop_binding}
use Rattle.ps_plans.specs.Seen.{seen_operands}
use Rattle.ps_binders.specs.Binders.{steps as steps_spec}
use Rattle.ps_binders.proofs.operands.steps.Given as goal

abbrev pub invariant-loop-i : goal.invariant-loop-i
invariant-loop-i l =
    seen_operands l.operands.items ++ steps_spec l.at (map seen_loop_binding (drop l.i l.bindings)) (drop l.i l.locals)
    ≡ steps_spec l.at (map seen_loop_binding l.bindings) l.locals
