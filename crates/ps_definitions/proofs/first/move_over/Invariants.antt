use Rattle.std.proofs.Common.{◌≡◌, ◌++◌, length}
use Rattle.std.specs.Prelude.{reverse}
use Rattle.ps_definitions.proofs.first.move_over.Given as goal

abbrev pub invariant-forms : goal.invariant-forms
invariant-forms l = l.left ++ reverse l.stack ≡ l.fn.forms ++ reverse l.fn.stack

abbrev pub decreases-forms : goal.decreases-forms
decreases-forms l = length l.left
