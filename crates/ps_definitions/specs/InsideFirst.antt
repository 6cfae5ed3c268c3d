-- How the code has what the first pass has noted (private; this project's own): the forms that are left stand with the next one last, and what is
-- kept of a form is told by itself.
use Rattle.std.specs.Prelude.{List, [], ◌∷◌, ◌++◌, reverse}
use Rattle.ps_definitions.specs.Definitions.{Passing, passing}
use Rattle.ps_definitions.specs.declared.first.Kept.{Kept}
use Rattle.ps_definitions.specs.declared.first.Kept.TheVariants as kept
use Rattle.ps_definitions.specs.declared.first.Noted.{Noted}
use Rattle.ps_definitions.specs.declared.first.Noted.TheVariants.{Variable, Kind, Expression}
use Rattle.ps_pattern.specs.declared.syntax.Syntax.{Syntax}

-- what is noted once a form is kept
abbrev pub with_kept : List Noted → Syntax → Kept → List Noted
with_kept noted g (kept.Variable n) = noted ++ Variable n g ∷ []
with_kept noted g (kept.Kind k) = noted ++ Kind k g ∷ []
with_kept noted g kept.Expression = noted ++ Expression g ∷ []
with_kept noted g kept.Nothing = noted

abbrev pub passed : List Noted → List Syntax → Unit {0} → Passing
passed noted stack u = passing noted (reverse stack)

-- the same of a form that is not kept yet
abbrev pub passed_by : List Noted → Syntax → List Syntax → Kept → Passing
passed_by noted g stack x = passing (with_kept noted g x) (reverse stack)
