use Rattle.std.proofs.Common.{◌≡◌, ◌+◌, ◌*◌, drop}
use Rattle.std.specs.List.{fold}
use Rattle.ps_show.specs.Bindings.{met, binds, group_binds, branches_bind, all_bind}
use Rattle.ps_show.proofs.survey.+meeting.Given as goal

abbrev pub decreases-meet_expr : goal.decreases-meet_expr
decreases-meet_expr l = 4 * l.left

abbrev pub decreases-meet_kind : goal.decreases-meet_kind
decreases-meet_kind l = 4 * l.left + 3

abbrev pub decreases-meet_all : goal.decreases-meet_all
decreases-meet_all l = 4 * l.left + 1

abbrev pub decreases-meet_branches : goal.decreases-meet_branches
decreases-meet_branches l = 4 * l.left + 1

abbrev pub decreases-meet_group : goal.decreases-meet_group
decreases-meet_group l = 4 * l.left + 2

abbrev pub decreases-meet_lambda : goal.decreases-meet_lambda
decreases-meet_lambda l = 4 * l.left + 1

-- the rest is met as all are
abbrev pub invariant-meet_all-loop-e : goal.invariant-meet_all-loop-e
invariant-meet_all-loop-e l = fold met l.locals (all_bind (binds l.kernel l.left) (drop l.e-index l.es)) ≡ fold met l.fn.locals (all_bind (binds l.kernel l.left) l.es)

abbrev pub invariant-meet_branches-loop-branch : goal.invariant-meet_branches-loop-branch
invariant-meet_branches-loop-branch l = fold met l.locals (branches_bind (binds l.kernel l.left) (drop l.branch-index l.branches)) ≡ fold met l.fn.locals (branches_bind (binds l.kernel l.left) l.branches)

abbrev pub invariant-meet_group-loop-entry : goal.invariant-meet_group-loop-entry
invariant-meet_group-loop-entry l = fold met l.locals (group_binds l.kernel (binds l.kernel l.left) (drop l.entry-index l.group)) ≡ fold met l.fn.locals (group_binds l.kernel (binds l.kernel l.left) l.group)
