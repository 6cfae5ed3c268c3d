use Rattle.std.proofs.Common.{◌≡◌, [], drop}
use Rattle.ps_derived.specs.Distinct.{none_twice}
use Rattle.ps_derived.specs.Seen.{idents}
use Rattle.ps_derived.proofs.distinct.are_distinct.Given as goal

abbrev pub invariant-loop-id : goal.invariant-loop-id
invariant-loop-id l = none_twice [] (idents l.ids) ≡ none_twice l.keys (drop l.id-index (idents l.ids))
