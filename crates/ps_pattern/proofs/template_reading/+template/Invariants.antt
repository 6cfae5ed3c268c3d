use Rattle.std.proofs.Common.{◌≡◌, map, false}
use Rattle.ps_pattern.specs.Templates.{parts_read, view}
use Rattle.ps_pattern.proofs.TemplateRows.{onward}
use Rattle.ps_pattern.proofs.template_reading.+template.Given as goal

abbrev pub invariant-read_parts-loop-i : goal.invariant-read_parts-loop-i
invariant-read_parts-loop-i l = parts_read l.depths l.around false (map (view l.dots l.keys l.depths) l.forms) ≡ onward l.dots l.keys l.depths l.around l.parts l.may l.i l.forms
