-- What the functions that take a text of structures apart answer (private to them).
use Rattle.std.specs.Prelude.{◌≡◌, ◌≤◌, ◌^◌, ℕ, true, List, [], length, Option, Some, Result, Ok, Err}
use Rattle.std.specs.List.{list_any}
use Rattle.ps_base.specs.declared.faults.ModuleKind.{ModuleKind}
use Rattle.ps_base.specs.declared.faults.Refusal.{Refusal}
use Rattle.ps_base.specs.declared.faults.Refusal.TheVariants as refusals
use Rattle.ps_base.specs.declared.limits.Limits.{Limits}
use Rattle.ps_datum.specs.declared.datum.Datum.{Datum}
use Rattle.ps_read.specs.Lexical.{Table}
use Rattle.ps_modules.specs.declared.shapes.Broken.{Broken}
use Rattle.ps_modules.specs.declared.shapes.Broken.TheVariants as broken
use Rattle.ps_modules.specs.declared.shapes.Shape.{Shape}
use Rattle.ps_modules.specs.declared.text.Text.{Text}
use Rattle.ps_modules.specs.declared.types.Export.{Export}
use Rattle.ps_modules.specs.Playing.{module_fault}
use Rattle.ps_modules.specs.Runs.{Run, Stops}
use Rattle.ps_modules.specs.Texts.{Trouble, Defined, shape_names, definition_names, resolved, defined_by, nothing, is_main}
use Rattle.ps_modules.specs.Walking.{by_entry}

-- what something broken refuses
abbrev pub refusal_by : ModuleKind → Broken → Refusal
refusal_by kind (broken.At place) = module_fault (record { kind = kind; place = place })
refusal_by kind broken.NoMemory = refusals.NoMemory

-- the rows of names are those of the structures and the interfaces, and each structure has a place of 32 bits
pub record Indexed (text : Text) : Type 0 where
  pub structures : text.structures ≡ shape_names text.shapes
  pub interfaces : text.interfaces ≡ definition_names text.definitions
  pub few : length text.shapes ≤ 2 ^ 32

-- what a text defines
abbrev pub defined : Text → Defined
defined text = record { shapes = text.shapes; definitions = text.definitions }

-- the refusal is for the trouble that there is, or memory ran out
abbrev pub Troubles : Result Defined Trouble → Refusal → Type 0
Troubles want refusals.NoMemory = Unit {0}
Troubles want (refusals.Fault f) = (t : Trouble) × (want ≡ Err t) × (refusals.Fault f ≡ module_fault t)

-- a walk stops at this refusal, or memory ran out
abbrev pub Comes : Run → Refusal → Type 0
Comes run refusals.NoMemory = Unit {0}
Comes run (refusals.Fault f) = (t : Trouble) × (run ≡ Stops t) × (refusals.Fault f ≡ module_fault t)

abbrev pub AddsForm : Result Defined Trouble → Text → Result (Unit {0}) Refusal → Type 0
AddsForm want after (Ok u) = Indexed after × (want ≡ Ok (defined after))
AddsForm want after (Err e) = Troubles want e

abbrev pub Defines : Table → List Datum → Result Text Refusal → Type 0
Defines table ds (Ok text) = Indexed text × (defined_by table nothing ds ≡ Ok (defined text))
Defines table ds (Err e) = Troubles (defined_by table nothing ds) e

-- the entry is this structure, and its interface lists these names, `main` among them as a value
pub record IsEntry (names : Table) (text : Defined) (shape : Option Shape) (exports : List Export) : Type 0 where
  pub entry : Shape
  pub is : shape ≡ Some entry
  pub lists : resolved text.definitions (length text.definitions) [] entry.interface ≡ Ok exports
  pub main : list_any (is_main names) exports ≡ true

abbrev pub EntryIs : Table → Defined → Option Shape → Result (List Export) Refusal → Type 0
EntryIs names text shape (Ok exports) = IsEntry names text shape exports
EntryIs names text shape (Err e) = (limits : Limits) (taken : ℕ) → Comes (by_entry names text limits taken shape) e
