use Rattle.std.proofs.Common.{◌+◌, ◌*◌, drop}
use Rattle.ps_show.specs.declared.page.Page.{Page}
use Rattle.ps_show.specs.InsidePages.{Adds}
use Rattle.ps_show.specs.InsideForms.{part}
use Rattle.ps_show.specs.ShowText.{Entry, operands_text, entries_text, branches_text}
use Rattle.ps_show.proofs.PagesAreJoined.{spaced_from}
use Rattle.ps_show.proofs.nodes.+writing.Given as goal

abbrev pub decreases-put_expr : goal.decreases-put_expr
decreases-put_expr l = 8 * l.levels

abbrev pub decreases-put_node : goal.decreases-put_node
decreases-put_node l = 8 * l.levels + 7

abbrev pub decreases-put_operands : goal.decreases-put_operands
decreases-put_operands l = 8 * l.levels + 1

abbrev pub decreases-put_other : goal.decreases-put_other
decreases-put_other l = 8 * l.levels + 1

abbrev pub decreases-put_last : goal.decreases-put_last
decreases-put_last l = 8 * l.levels + 1

abbrev pub decreases-put_bindings : goal.decreases-put_bindings
decreases-put_bindings l = 8 * l.levels + 1

abbrev pub decreases-put_binding : goal.decreases-put_binding
decreases-put_binding l = 8 * l.levels + 1

abbrev pub decreases-put_group : goal.decreases-put_group
decreases-put_group l = 8 * l.levels + 1

abbrev pub decreases-put_entries : goal.decreases-put_entries
decreases-put_entries l = 8 * l.levels + 2

abbrev pub decreases-put_entry : goal.decreases-put_entry
decreases-put_entry l = 8 * l.levels + 1

abbrev pub decreases-put_lambda : goal.decreases-put_lambda
decreases-put_lambda l = 8 * l.levels + 3

abbrev pub decreases-put_procedure : goal.decreases-put_procedure
decreases-put_procedure l = 8 * l.levels + 2

abbrev pub decreases-put_branches : goal.decreases-put_branches
decreases-put_branches l = 8 * l.levels + 2

abbrev pub decreases-put_branch : goal.decreases-put_branch
decreases-put_branch l = 8 * l.levels + 1

-- what adds the rest has added all
abbrev pub invariant-put_operands-loop-e : goal.invariant-put_operands-loop-e
invariant-put_operands-loop-e l = (t : Page) → Adds l.page t (operands_text (part l.showing l.levels) (drop l.e-index l.es)) → Adds l.fn.page t (operands_text (part l.showing l.levels) l.es)

abbrev pub invariant-put_branches-loop-branch : goal.invariant-put_branches-loop-branch
invariant-put_branches-loop-branch l = (t : Page) → Adds l.page t (branches_text (part l.showing l.levels) l.place l.kind (drop l.branch-index l.branches)) → Adds l.fn.page t (branches_text (part l.showing l.levels) l.place l.kind l.branches)

abbrev pub invariant-put_entries-loop-i : goal.invariant-put_entries-loop-i
invariant-put_entries-loop-i l = (t : Page) → Adds l.page t (spaced_from (λ e. part l.showing l.levels (Entry l.place e)) l.i l.group) → Adds l.fn.page t (entries_text (part l.showing l.levels) l.place l.group)
