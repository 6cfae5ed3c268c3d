use Rattle.std.proofs.Common.{◌≡◌, map, take}
use Rattle.ps_derived.specs.Seen.{idents, seen_field}
use Rattle.ps_derived.specs.Records.{field_names}
use Rattle.ps_derived.proofs.records.names_of.Given as goal

abbrev pub invariant-loop-field : goal.invariant-loop-field
invariant-loop-field l = idents l.ids ≡ field_names (map seen_field (take l.field-index l.fields))
