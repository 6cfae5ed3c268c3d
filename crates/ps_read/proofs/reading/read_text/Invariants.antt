use Rattle.std.proofs.Common.{◌≡◌, ◌+◌, ◌≤◌, length}
use Rattle.ps_read.specs.InsideMachine.{run}
use Rattle.ps_read.specs.Lexical.{tokens, listed}
use Rattle.ps_read.specs.Reading.{AreNames, Grown}
use Rattle.ps_read.specs.InsideReading.{answer}
use Rattle.ps_read.proofs.reading.read_text.Given as goal

abbrev pub invariant-loop-rest : goal.invariant-loop-rest
invariant-loop-rest l = record {
  same : run (l.done, l.stack) (tokens l.names 0 l.place l.rest) ≡ answer l.fn.names l.file l.text;
  table : listed l.names 0 l.rest ≡ listed l.fn.names 0 l.text;
  identifiers : AreNames l.fn.names → AreNames l.names;
  kept : Grown l.fn.names l.names;
  names_fit : length l.names + length l.rest ≤ length l.fn.names + length l.text;
  lines : l.place.line + length l.rest ≤ length l.text + 1;
  columns : l.place.column + length l.rest ≤ length l.text + 1;
}

abbrev pub decreases-loop-rest : goal.decreases-loop-rest
decreases-loop-rest l = length l.rest
