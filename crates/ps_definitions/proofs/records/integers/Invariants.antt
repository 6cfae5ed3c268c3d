use Rattle.std.proofs.Common.{◌≡◌, ◌++◌, drop, map}
use Rattle.ps_derived.specs.Seen.{seen_field}
use Rattle.ps_definitions.specs.Definitions.{integers}
use Rattle.ps_definitions.proofs.records.integers.Given as goal

abbrev pub invariant-loop-field : goal.invariant-loop-field
invariant-loop-field l = l.types ++ integers (map seen_field (drop l.field-index l.fields)) ≡ integers (map seen_field l.fields)
