use Rattle.std.proofs.Common.{◌≡◌, drop}
use Rattle.std.specs.List.{fold}
use Rattle.ps_captured.specs.InsideKeeping.{looked, no_entry, with_entry}
use Rattle.ps_captured.proofs.members.Members.new.Given as goal

-- what the rest adds ends as what all adds
abbrev pub invariant-loop-entry : goal.invariant-loop-entry
invariant-loop-entry l = fold with_entry (looked l.members) (drop l.entry-index l.group) ≡ fold with_entry no_entry l.group
