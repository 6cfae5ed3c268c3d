use Rattle.std.proofs.Common.{◌≡◌, map, take}
use Rattle.ps_pattern.specs.Conversions.{data_of}
use Rattle.ps_pattern.proofs.conversion.+to_data.Given as goal

abbrev pub invariant-data_of_all-loop-form : goal.invariant-data_of_all-loop-form
invariant-data_of_all-loop-form l = l.data ≡ map data_of (take l.form-index l.forms)
