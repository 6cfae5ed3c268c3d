use Rattle.std.proofs.Common.{◌≡◌, [], drop}
use Rattle.ps_pattern.specs.Identifiers.{all_keys}
use Rattle.ps_pattern.proofs.keys.keys_of.Given as goal

abbrev pub invariant-loop-id : goal.invariant-loop-id
invariant-loop-id l = all_keys [] l.ids ≡ all_keys l.keys (drop l.id-index l.ids)
