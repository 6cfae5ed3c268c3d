use Rattle.std.proofs.Common.{◌≡◌, ◌++◌, take}
use Rattle.ps_static_tables.proofs.texts.push_all.Given as goal

abbrev pub invariant-loop-entry : goal.invariant-loop-entry
invariant-loop-entry l = l.entries ≡ l.initial.entries ++ take l.entry-index l.group
