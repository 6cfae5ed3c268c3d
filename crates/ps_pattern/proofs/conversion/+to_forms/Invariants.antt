use Rattle.std.proofs.Common.{◌≡◌, map, take}
use Rattle.ps_pattern.specs.Conversions.{form_of}
use Rattle.ps_pattern.proofs.conversion.+to_forms.Given as goal

abbrev pub invariant-all_of-loop-datum : goal.invariant-all_of-loop-datum
invariant-all_of-loop-datum l = l.forms ≡ map form_of (take l.datum-index l.items)
