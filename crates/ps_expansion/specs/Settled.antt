-- A form as the code holds it once its own macro uses are transcribed (this project's own).
use Rattle.ps_pattern.specs.declared.syntax.Syntax.{Syntax}
use Rattle.ps_expansion.specs.declared.settled.Held.{Held}
use Rattle.ps_expansion.specs.declared.settled.Held.TheVariants as h

abbrev pub held_form : Held → Syntax
held_form (h.Given f) = f.now
held_form (h.Made f) = f
