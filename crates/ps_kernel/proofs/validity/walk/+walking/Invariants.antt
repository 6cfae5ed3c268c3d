use Rattle.std.proofs.Common.{◌≡◌, ◌+◌, ◌*◌, drop}
use Rattle.std.specs.List.{fold}
use Rattle.ps_kernel.specs.InsideSteps.{part_steps, sequence_steps, group_steps, steps}
use Rattle.ps_kernel.specs.InsideWalks.{step}
use Rattle.ps_kernel.proofs.validity.walk.+walking.Given as goal

abbrev pub decreases-walk_expr : goal.decreases-walk_expr
decreases-walk_expr l = 8 * l.left

abbrev pub decreases-walk_kind : goal.decreases-walk_kind
decreases-walk_kind l = 8 * l.left + 4

abbrev pub decreases-walk_choice : goal.decreases-walk_choice
decreases-walk_choice l = 8 * l.left + 3

abbrev pub decreases-walk_let : goal.decreases-walk_let
decreases-walk_let l = 8 * l.left + 3

abbrev pub decreases-walk_letrec : goal.decreases-walk_letrec
decreases-walk_letrec l = 8 * l.left + 3

abbrev pub decreases-walk_case : goal.decreases-walk_case
decreases-walk_case l = 8 * l.left + 3

abbrev pub decreases-walk_branches : goal.decreases-walk_branches
decreases-walk_branches l = 8 * l.left + 2

abbrev pub decreases-walk_branch : goal.decreases-walk_branch
decreases-walk_branch l = 8 * l.left + 1

abbrev pub decreases-walk_call : goal.decreases-walk_call
decreases-walk_call l = 8 * l.left + 3

abbrev pub decreases-walk_parts : goal.decreases-walk_parts
decreases-walk_parts l = 8 * l.left + 2

abbrev pub decreases-walk_sequence : goal.decreases-walk_sequence
decreases-walk_sequence l = 8 * l.left + 2

abbrev pub decreases-walk_lambda : goal.decreases-walk_lambda
decreases-walk_lambda l = 8 * l.left + 1

abbrev pub decreases-walk_group : goal.decreases-walk_group
decreases-walk_group l = 8 * l.left + 2

-- the walk over the rest ends as that over all
abbrev pub invariant-walk_parts-loop-part : goal.invariant-walk_parts-loop-part
invariant-walk_parts-loop-part l = fold (step l.kernel) l.walk (part_steps (steps l.kernel l.left) (drop l.part-index l.parts)) ≡ fold (step l.kernel) l.fn.walk (part_steps (steps l.kernel l.left) l.parts)

abbrev pub invariant-walk_sequence-loop-i : goal.invariant-walk_sequence-loop-i
invariant-walk_sequence-loop-i l = fold (step l.kernel) l.walk (sequence_steps (steps l.kernel l.left) l.tail (drop l.i l.parts)) ≡ fold (step l.kernel) l.fn.walk (sequence_steps (steps l.kernel l.left) l.tail l.parts)

abbrev pub invariant-walk_group-loop-entry : goal.invariant-walk_group-loop-entry
invariant-walk_group-loop-entry l = fold (step l.kernel) l.walk (group_steps l.kernel (steps l.kernel l.left) (drop l.entry-index l.group)) ≡ fold (step l.kernel) l.fn.walk (group_steps l.kernel (steps l.kernel l.left) l.group)
