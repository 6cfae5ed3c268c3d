-- Laws of reading (this project's own).
use Rattle.std.specs.Prelude.{◌≡◌, ℕ, List}
use Rattle.ps_datum.specs.declared.datum.Datum.{Datum}
use Rattle.ps_read.specs.declared.token.Token.{Token}
use Rattle.ps_read.specs.declared.token.Breach.{Breach}
use Rattle.ps_read.specs.Breaches.{FirstBreach}
use Rattle.ps_read.specs.First.{BreaksOff}
use Rattle.ps_read.specs.Lexical.{Table}
use Rattle.ps_read.specs.Reading.{Reads}

-- at a first breach the tokens break off
abbrev pub FirstBreachIsFirst : Type 0
FirstBreachIsFirst = (ts : List Token) (b : Breach) → FirstBreach ts b → BreaksOff ts b

-- two readings of a text are of the same data
abbrev pub TextHasOneReading : Type 0
TextHasOneReading =
    (names : Table) (file : ℕ) (text : List ℕ) (ds es : List Datum) (n m : Table) → Reads names file text ds n → Reads names file text es m → ds ≡ es
