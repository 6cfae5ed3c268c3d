use Rattle.std.proofs.Common.{◌≡◌, map, take, Some}
use Rattle.ps_pattern.specs.Matching.{collect}
use Rattle.ps_derived.specs.Records.{field_at}
use Rattle.ps_derived.specs.Seen.{seen_field}
use Rattle.ps_derived.proofs.records.fields_in.Given as goal

abbrev pub invariant-loop-form : goal.invariant-loop-form
invariant-loop-form l = collect (map field_at (take l.form-index l.forms)) ≡ Some (map seen_field l.fields)
