-- A walk that asks for files as it goes (this project's own).
use Rattle.std.specs.Prelude.{ℕ, List}
use Rattle.ps_base.specs.declared.faults.Place.{Place}
use Rattle.ps_datum.specs.declared.datum.Datum.{Datum}
use Rattle.ps_read.specs.Lexical.{Table}
use Rattle.ps_modules.specs.declared.files.Count.{Count}
use Rattle.ps_modules.specs.declared.types.Structure.{Structure}
use Rattle.ps_modules.specs.Texts.{Trouble}

-- It ends with the structures in the order in which they were left, and the table of names; or it stops at a fault; or it wants the
-- file of a name, within a room, to be fetched and read, and goes on with its bytes, its data and the table of names behind them. The
-- name's place, the count before it and the table before it are for the reading, and for what is answered where there is none.
pub data Run : Type 0 where
  Done : List Structure → Table → Run
  Stops : Trouble → Run
  Wants : List ℕ → ℕ → Place → Count → Table → (List ℕ → List Datum → Table → Run) → Run
