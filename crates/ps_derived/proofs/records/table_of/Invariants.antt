use Rattle.std.proofs.Common.{◌≡◌, [], drop}
use Rattle.ps_pattern.specs.Identifiers.{all_keys}
use Rattle.ps_derived.specs.Seen.{idents}
use Rattle.ps_derived.proofs.records.table_of.Given as goal

abbrev pub invariant-loop-name : goal.invariant-loop-name
invariant-loop-name l = all_keys [] (idents l.names) ≡ all_keys l.keys (drop l.name-index (idents l.names))
