use Rattle.std.proofs.Common.{◌≡◌}
use Rattle.ps_pattern.specs.Reading.{row_of}
use Rattle.ps_pattern.proofs.PatternRows.{onward}
use Rattle.ps_pattern.proofs.reading.+reading.Given as goal

abbrev pub invariant-read_row-loop-i : goal.invariant-read_row-loop-i
invariant-read_row-loop-i l = row_of l.dots l.literals l.depth l.forms ≡ onward l.dots l.literals l.depth l.ps l.vars l.i l.forms
