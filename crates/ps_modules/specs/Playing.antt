-- How a walk goes where the libraries answer (this project's own).
use Rattle.std.specs.Prelude.{ℕ, List, Result, Ok, Err}
use Rattle.ps_base.specs.declared.faults.Fault.TheVariants as faults
use Rattle.ps_base.specs.declared.faults.ModuleKind.TheVariants as kinds
use Rattle.ps_base.specs.declared.faults.Place.{Place}
use Rattle.ps_base.specs.declared.faults.Refusal.{Refusal}
use Rattle.ps_base.specs.declared.faults.Refusal.TheVariants as refusals
use Rattle.ps_datum.specs.declared.datum.Datum.{Datum}
use Rattle.ps_read.specs.Lexical.{Table, tokens_of}
use Rattle.ps_read.specs.Reading.{Reads}
use Rattle.ps_read.specs.Breaches.{FirstBreach}
use Rattle.ps_read.specs.declared.token.Breach.{Breach}
use Rattle.ps_library.specs.LibraryStates.{LibraryState}
use Rattle.ps_library.specs.Fetching.{Fetches, AllStay}
use Rattle.ps_library.specs.declared.fetching.FetchFault.{FetchFault}
use Rattle.ps_library.specs.declared.fetching.FetchFault.TheVariants as fetching
use Rattle.ps_modules.specs.declared.files.Count.{Count}
use Rattle.ps_modules.specs.declared.types.Structure.{Structure}
use Rattle.ps_modules.specs.Texts.{Trouble}
use Rattle.ps_modules.specs.Runs.{Run, Done, Stops, Wants}
use Rattle.ps_modules.specs.Walking.{next_number}

-- the structures and the table of names behind them, or why there are none
abbrev pub Outcome : Type 0
Outcome = Result (List Structure × Table) Refusal

abbrev pub module_fault : Trouble → Refusal
module_fault trouble = refusals.Fault (faults.Module trouble.kind trouble.place)

-- what a file that was not fetched refuses
abbrev pub refusal_of : Place → Count → FetchFault → Refusal
refusal_of place count fetching.Absent = refusals.Fault (faults.Module kinds.MissingFile place)
refusal_of place count (fetching.Failed i) = refusals.Fault (faults.Library i)
refusal_of place count fetching.TooLong = refusals.Fault (faults.TooLong (next_number count))
refusal_of place count fetching.NoMemory = refusals.NoMemory

-- Played against the libraries, the walk takes them from the first states to the second and comes to this: each file that it wants is
-- fetched from them and read. Memory may run out at any time.
pub data Plays : Run → List LibraryState → List LibraryState → Outcome → Type 0 where
  done : {order : List Structure} {table : Table} {states : List LibraryState} → Plays (Done order table) states states (Ok (order, table))
  stopped : {trouble : Trouble} {states : List LibraryState} → Plays (Stops trouble) states states (Err (module_fault trouble))
  fetched : {name : List ℕ} {room : ℕ} {place : Place} {count : Count} {table behind : Table} {goes_on : List ℕ → List Datum → Table → Run} {olds mids news : List LibraryState} {text : List ℕ} {ds : List Datum} {out : Outcome}
      → Fetches name room olds mids (Ok text) → Reads table (next_number count) text ds behind → Plays (goes_on text ds behind) mids news out
      → Plays (Wants name room place count table goes_on) olds news out
  unreadable : {name : List ℕ} {room : ℕ} {place : Place} {count : Count} {table : Table} {goes_on : List ℕ → List Datum → Table → Run} {olds news : List LibraryState} {text : List ℕ} {breach : Breach}
      → Fetches name room olds news (Ok text) → FirstBreach (tokens_of table (next_number count) text) breach
      → Plays (Wants name room place count table goes_on) olds news (Err (refusals.Fault (faults.Syntax breach.kind breach.place)))
  missed : {name : List ℕ} {room : ℕ} {place : Place} {count : Count} {table : Table} {goes_on : List ℕ → List Datum → Table → Run} {olds news : List LibraryState} {fault : FetchFault}
      → Fetches name room olds news (Err fault) → Plays (Wants name room place count table goes_on) olds news (Err (refusal_of place count fault))
  no_memory : {run : Run} {olds news : List LibraryState} → AllStay olds news → Plays run olds news (Err refusals.NoMemory)
