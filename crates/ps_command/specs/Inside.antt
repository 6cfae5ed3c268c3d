-- What the parts of the top call do with an output (this project's own).
use Rattle.std.specs.Prelude.{◌≡◌, ℕ, List, Result, Ok, Err}
use Rattle.ps_base.specs.SinkStates.{SinkState}
use Rattle.ps_base.specs.Sinks.{Appended, Cut}
use Rattle.ps_base.specs.declared.sink.SinkFault.{SinkFault}

-- all of the text was appended and nothing is held back, or a front of it was appended and then a fault came
abbrev pub Delivers : SinkState → SinkState → List ℕ → Result (Unit {0}) SinkFault → Type 0
Delivers o o' text (Ok done) = Appended o o' text × (o'.held ≡ 0)
Delivers o o' text (Err fault) = Cut o o' text
