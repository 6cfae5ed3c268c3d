-- How many parameters a procedure may have, by the name of the limit of a run (this project's own).
use Rattle.std.specs.Prelude.{ℕ}
use Rattle.ps_base.specs.Limits.{standard_limits}

abbrev pub most_parameters : ℕ
most_parameters = standard_limits.leaves
