use Rattle.std.proofs.Common.{◌*◌, ◌+◌, take}
use Rattle.ps_static_tables.specs.InsideTexts.{TellsEach, TellsGroup}
use Rattle.ps_static_tables.proofs.texts.+telling.Given as goal

abbrev pub decreases-tell : goal.decreases-tell
decreases-tell l = 3 * l.level

abbrev pub decreases-tell_each : goal.decreases-tell_each
decreases-tell_each l = 3 * l.level + 1

abbrev pub decreases-tell_branches : goal.decreases-tell_branches
decreases-tell_branches l = 3 * l.level + 1

abbrev pub decreases-tell_lambda : goal.decreases-tell_lambda
decreases-tell_lambda l = 3 * l.level + 1

abbrev pub decreases-tell_group : goal.decreases-tell_group
decreases-tell_group l = 3 * l.level + 2

abbrev pub invariant-tell_each-loop-e : goal.invariant-tell_each-loop-e
invariant-tell_each-loop-e l = TellsEach l.kernel l.level (take l.e-index l.es) l.initial.entries l.entries

abbrev pub invariant-tell_group-loop-entry : goal.invariant-tell_group-loop-entry
invariant-tell_group-loop-entry l = TellsGroup l.kernel l.level l.group (take l.entry-index l.group) l.initial.entries l.entries
