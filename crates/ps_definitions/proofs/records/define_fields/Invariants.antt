use Rattle.std.proofs.Common.{◌≡◌, drop, map}
use Rattle.ps_derived.specs.Seen.{seen_field}
use Rattle.ps_expansion.specs.Does.{state_of}
use Rattle.ps_definitions.specs.Definitions.{defines_fields}
use Rattle.ps_definitions.proofs.records.define_fields.Given as goal

abbrev pub invariant-loop-field : goal.invariant-loop-field
invariant-loop-field l = record {
  same : l.state.hygiene.here ≡ l.fn.state.hygiene.here;
  goes_on : defines_fields l.at l.kind l.number (map seen_field (drop l.field-index l.fields)) (state_of l.state)
      ≡ defines_fields l.at l.kind 0 (map seen_field l.fields) (state_of l.fn.state);
}
