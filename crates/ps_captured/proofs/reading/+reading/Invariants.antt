use Rattle.std.proofs.Common.{◌≡◌, ◌+◌, ◌*◌, drop}
use Rattle.ps_captured.specs.InsideReading.{read, read_group, read_parts, sights}
use Rattle.ps_captured.proofs.reading.+reading.Given as goal

abbrev pub decreases-read_expr : goal.decreases-read_expr
decreases-read_expr l = 8 * l.left

abbrev pub decreases-read_node : goal.decreases-read_node
decreases-read_node l = 8 * l.left + 6

abbrev pub decreases-read_choice : goal.decreases-read_choice
decreases-read_choice l = 8 * l.left + 1

abbrev pub decreases-read_region : goal.decreases-read_region
decreases-read_region l = 8 * l.left + 1

abbrev pub decreases-read_regions : goal.decreases-read_regions
decreases-read_regions l = 8 * l.left + 5

abbrev pub decreases-read_members : goal.decreases-read_members
decreases-read_members l = 8 * l.left + 4

abbrev pub decreases-read_one : goal.decreases-read_one
decreases-read_one l = 8 * l.left + 3

abbrev pub decreases-read_text : goal.decreases-read_text
decreases-read_text l = 8 * l.left + 2

abbrev pub decreases-read_body : goal.decreases-read_body
decreases-read_body l = 8 * l.left + 1

abbrev pub decreases-read_cases : goal.decreases-read_cases
decreases-read_cases l = 8 * l.left + 2

abbrev pub decreases-read_branches : goal.decreases-read_branches
decreases-read_branches l = 8 * l.left + 1

abbrev pub decreases-read_operation : goal.decreases-read_operation
decreases-read_operation l = 8 * l.left + 2

abbrev pub decreases-read_each : goal.decreases-read_each
decreases-read_each l = 8 * l.left + 1

-- the reading of the rest ends as that of all
abbrev pub invariant-read_each-loop-part : goal.invariant-read_each-loop-part
invariant-read_each-loop-part l = read_parts (read l.lambdas l.left) (sights l.seen) (drop l.part-index l.parts) ≡ read_parts (read l.lambdas l.left) (sights l.fn.seen) l.parts

abbrev pub invariant-read_members-loop-entry : goal.invariant-read_members-loop-entry
invariant-read_members-loop-entry l =
    read_group l.lambdas (read l.lambdas l.left) (sights l.seen) l.group (drop l.entry-index l.group) ≡ read_group l.lambdas (read l.lambdas l.left) (sights l.fn.seen) l.group l.group
