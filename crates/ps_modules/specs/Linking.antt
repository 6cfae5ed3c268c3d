-- What linking answers, in words of the files alone, where every library tells its own (this project's own).
use Rattle.std.specs.Prelude.{◌≡◌, ℕ, ◌≤◌, ◌<◌, List, length, None, Some, IfSome, Result, Ok, Err}
use Rattle.ps_base.specs.declared.faults.Fault.TheVariants as faults
use Rattle.ps_base.specs.declared.faults.ModuleKind.TheVariants as kinds
use Rattle.ps_base.specs.declared.faults.Place.{Place}
use Rattle.ps_base.specs.declared.faults.Refusal.{Refusal}
use Rattle.ps_base.specs.declared.faults.Refusal.TheVariants as refusals
use Rattle.ps_datum.specs.declared.datum.Datum.{Datum}
use Rattle.ps_read.specs.Lexical.{Table, tokens_of}
use Rattle.ps_read.specs.Reading.{Reads}
use Rattle.ps_read.specs.Breaches.{FirstBreach}
use Rattle.ps_read.specs.declared.token.Breach.{Breach}
use Rattle.ps_library.specs.LibraryStates.{LibraryState, Files}
use Rattle.ps_library.specs.Fetching.{search_path, AllStay, RoseAt}
use Rattle.ps_modules.specs.declared.files.Count.{Count}
use Rattle.ps_modules.specs.declared.types.Linked.{Linked}
use Rattle.ps_modules.specs.declared.types.Structure.{Structure}
use Rattle.ps_modules.specs.Texts.{Trouble}
use Rattle.ps_modules.specs.Runs.{Run, Done, Stops, Wants}
use Rattle.ps_modules.specs.Walking.{next_number}
use Rattle.ps_modules.specs.Playing.{Outcome, module_fault, Plays}

-- what a walk comes to where these are the files
pub data Answered (files : Files) : Run → Outcome → Type 0 where
  done : {order : List Structure} {table : Table} → Answered files (Done order table) (Ok (order, table))
  stopped : {trouble : Trouble} → Answered files (Stops trouble) (Err (module_fault trouble))
  found : {name : List ℕ} {room : ℕ} {place : Place} {count : Count} {table behind : Table} {goes_on : List ℕ → List Datum → Table → Run} {text : List ℕ} {ds : List Datum} {out : Outcome}
      → files name ≡ Some text → length text ≤ room → Reads table (next_number count) text ds behind → Answered files (goes_on text ds behind) out
      → Answered files (Wants name room place count table goes_on) out
  unreadable : {name : List ℕ} {room : ℕ} {place : Place} {count : Count} {table : Table} {goes_on : List ℕ → List Datum → Table → Run} {text : List ℕ} {breach : Breach}
      → files name ≡ Some text → length text ≤ room → FirstBreach (tokens_of table (next_number count) text) breach
      → Answered files (Wants name room place count table goes_on) (Err (refusals.Fault (faults.Syntax breach.kind breach.place)))
  too_long : {name : List ℕ} {room : ℕ} {place : Place} {count : Count} {table : Table} {goes_on : List ℕ → List Datum → Table → Run} {text : List ℕ}
      → files name ≡ Some text → room < length text
      → Answered files (Wants name room place count table goes_on) (Err (refusals.Fault (faults.TooLong (next_number count))))
  missing : {name : List ℕ} {room : ℕ} {place : Place} {count : Count} {table : Table} {goes_on : List ℕ → List Datum → Table → Run}
      → files name ≡ None → Answered files (Wants name room place count table goes_on) (Err (refusals.Fault (faults.Module kinds.MissingFile place)))

-- what is answered is what the walk comes to, or a library failed, or memory ran out
pub data Tells (files : Files) (run : Run) : Outcome → Type 0 where
  just : {out : Outcome} → Answered files run out → Tells files run out
  failed : (k : ℕ) → Tells files run (Err (refusals.Fault (faults.Library k)))
  memory : Tells files run (Err refusals.NoMemory)

-- Read `Links run olds news out` as: where libraries show olds, the run comes to out, and they show news behind it.
pub record Links (run : Run) (olds news : List LibraryState) (out : Outcome) : Type 0 where
  -- which files were fetched, from which libraries, and how many bytes were taken of each
  pub plays : Plays run olds news out
  -- the libraries are there still, in the same order and with the same files
  pub stay : AllStay olds news
  -- where every library tells its files
  pub told : IfSome (search_path olds) (λ files. Tells files run out)
  -- a library that is blamed failed
  pub blamed : (k : ℕ) → out ≡ Err (refusals.Fault (faults.Library k)) → RoseAt k olds news

-- what is answered where this is the table of names behind it
abbrev pub answer : Result Linked Refusal → Table → Outcome
answer (Ok program) table = Ok (program.structures, table)
answer (Err e) table = Err e
