use Rattle.std.proofs.Common.{◌≡◌, map, take, Some}
use Rattle.ps_pattern.specs.Matching.{collect}
use Rattle.ps_derived.specs.Records.{index_in}
use Rattle.ps_derived.specs.Seen.{idents}
use Rattle.ps_derived.proofs.records.indices_in.Given as goal

abbrev pub invariant-loop-id : goal.invariant-loop-id
invariant-loop-id l = collect (map (index_in l.keys) (take l.id-index (idents l.ids))) ≡ Some l.indices
