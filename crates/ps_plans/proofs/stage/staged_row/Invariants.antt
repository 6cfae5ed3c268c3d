use Rattle.std.proofs.Common.{◌≡◌, ◌++◌, drop}
use Rattle.ps_plans.specs.Nodes.{staged_row as staged_row_spec}
use Rattle.ps_plans.specs.Seen.{seen_all}
use Rattle.ps_plans.proofs.stage.staged_row.Given as goal

abbrev pub invariant-loop-i : goal.invariant-loop-i
invariant-loop-i l = seen_all l.all.items ++ staged_row_spec l.level (drop l.i l.forms) ≡ staged_row_spec l.level l.forms
