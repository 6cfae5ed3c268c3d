-- Data that are the same but for places, and what it means that a written datum reads again (this project's own).
use Rattle.std.specs.Prelude.{◌≡◌, ℕ, List, [], ◌∷◌}
use Rattle.std.specs.List.{AllByRecursion}
use Rattle.ps_base.specs.declared.faults.Place.{Place}
use Rattle.ps_datum.specs.declared.datum.Datum.{Datum, fold-Datum}
use Rattle.ps_datum.specs.declared.datum.DatumKind.{DatumKind, roll-DatumKind}
use Rattle.ps_datum.specs.Writing.{written}
use Rattle.ps_read.specs.Grammar.{datum}
use Rattle.ps_read.specs.Lexical.{Table}
use Rattle.ps_read.specs.Reading.{Reads}

abbrev pub nowhere : Place
nowhere = record { file = 0; line = 1; column = 1 }

-- the datum with one place everywhere
unfoldable pub bare : Datum → Datum
bare d = fold-Datum DatumKind Datum roll-DatumKind (λ x. datum nowhere x.kind) d

-- the text of a datum reads as one datum, the same but for places, and leaves the table of names as it is
abbrev pub ReadsAgain : Table → Datum → Type 0
ReadsAgain names d = (file : ℕ) → (e : Datum) × Reads names file (written names d) (e ∷ []) names × (bare e ≡ bare d)

-- each datum of a text reads again, over the table behind that text
abbrev pub WrittenReadsAgain : Type 0
WrittenReadsAgain = (before : Table) (file : ℕ) (text : List ℕ) (ds : List Datum) (names : Table) → Reads before file text ds names → AllByRecursion (ReadsAgain names) ds
