-- What the functions that write types promise each other (this project's own). No public clause cites this file.
use Rattle.std.specs.Prelude.{ℕ, zero, suc, [], codes}
use Rattle.ps_types.specs.Writing.{Text}

-- what stands before the part at a place
abbrev pub space_before : ℕ → Text
space_before zero = []
space_before (suc i) = codes " "
