-- The walk of structures from the entry (this project's own): a recursion on the path that rereads plain lists. Each part is told
-- how it goes on.
use Rattle.std.specs.Prelude.{ℕ, suc, zero, ◌+◌, ◌-◌, List, [], ◌∷◌, ◌++◌, length, map, min, Bool, true, false, Option, Some, None, Result, Ok, Err, nat_eq, slice_get, codes, if◌then◌else◌}
use Rattle.std.specs.List.{list_any}
use Rattle.ps_base.specs.declared.faults.ModuleKind.TheVariants as kinds
use Rattle.ps_base.specs.declared.faults.Place.{Place}
use Rattle.ps_base.specs.declared.limits.Limits.{Limits}
use Rattle.ps_base.specs.declared.names.Name.{Name}
use Rattle.ps_datum.specs.declared.datum.Datum.{Datum}
use Rattle.ps_read.specs.Lexical.{Table, added, name_in}
use Rattle.ps_modules.specs.declared.files.Count.{Count}
use Rattle.ps_modules.specs.declared.openings.Meant.{Meant}
use Rattle.ps_modules.specs.declared.shapes.OpenedName.{OpenedName}
use Rattle.ps_modules.specs.declared.shapes.Part.{Part}
use Rattle.ps_modules.specs.declared.shapes.Part.TheVariants as parts
use Rattle.ps_modules.specs.declared.shapes.Shape.{Shape}
use Rattle.ps_modules.specs.declared.types.Export.{Export}
use Rattle.ps_modules.specs.declared.types.Opened.{Opened}
use Rattle.ps_modules.specs.declared.types.Opened.TheVariants as opened
use Rattle.ps_modules.specs.declared.types.Structure.{Structure}
use Rattle.ps_modules.specs.Shapes.{Shaped, text_of}
use Rattle.ps_modules.specs.BuiltIn.{built_in}
use Rattle.ps_modules.specs.Texts.{Trouble, Defined, place_in, structure_at, resolved, last_of, is_main, is_body, defined_by, nothing}
use Rattle.ps_modules.specs.Openings.{two_opened}
use Rattle.ps_modules.specs.Runs.{Run, Done, Stops, Wants}

-- ---- files

-- how many bytes the next file may have
abbrev pub room_of : Limits → Count → ℕ
room_of limits count = min limits.text_bytes (limits.all_bytes - count.taken)

-- the number of the next file: how many were fetched, it with them; it stands still at the last number of 32 bits
abbrev pub next_number : Count → ℕ
next_number count = min (count.number + 1) 4294967295

-- the count behind a file of so many bytes
abbrev pub counted : Count → ℕ → Count
counted count bytes = record { number = next_number count; taken = count.taken + bytes }

-- the parts of a body, one after another, behind these forms
abbrev pub parts_then : Limits → List Part → List Datum → Count → Table → (List Datum → Count → Table → Run) → Run
parts_then limits [] body count table goes_on = goes_on body count table
parts_then limits (parts.Forms ds ∷ rest) body count table goes_on = parts_then limits rest (body ++ ds) count table goes_on
parts_then limits (parts.File f ∷ rest) body count table goes_on = Wants f.text (room_of limits count) f.place count table
    (λ text ds behind. parts_then limits rest (body ++ ds) (counted count (length text)) behind goes_on)

-- ---- structures

-- what the walk has done: the structures that it left, by their numbers and as they are, the files that it fetched, and the names
pub record State : Type 0 where
  pub walked : List ℕ
  pub order : List Structure
  pub count : Count
  pub table : Table

abbrev pub stops : Shaped (List Export) → (List Export → Run) → Run
stops (Ok exports) goes_on = goes_on exports
stops (Err place) goes_on = Stops (record { kind = kinds.UnknownInterface; place = place })

abbrev pub is_on : ℕ → List ℕ → Bool
is_on j path = list_any (nat_eq j) path

abbrev pub Goes : Type 0
Goes = State → Run

-- how an opened structure is entered
abbrev pub Enters : Type 0
Enters = Place → ℕ → State → Goes → Run

abbrev pub by_path : Enters → Place → ℕ → Bool → State → Goes → Run
by_path enters place j true state goes_on = Stops (record { kind = kinds.Circle; place = place })
by_path enters place j false state goes_on = enters place j state goes_on

abbrev pub by_place : Enters → List ℕ → Place → ℕ → Option ℕ → State → Goes → Run
by_place enters path place j None state goes_on = by_path enters place j (is_on j path) state goes_on
by_place enters path place j (Some k) state goes_on = goes_on state

abbrev pub by_number : Enters → List ℕ → Place → Option ℕ → State → Goes → Run
by_number enters path place None state goes_on = Stops (record { kind = kinds.UnknownStructure; place = place })
by_number enters path place (Some j) state goes_on = by_place enters path place j (place_in state.walked j) state goes_on

abbrev pub by_built_in : Enters → List ℕ → Place → Option Opened → Option ℕ → State → Goes → Run
by_built_in enters path place (Some o) j state goes_on = goes_on state
by_built_in enters path place None j state goes_on = by_number enters path place j state goes_on

-- an opened name
abbrev pub opening : List Shape → Enters → List ℕ → OpenedName → State → Goes → Run
opening shapes enters path o state goes_on = by_built_in enters path o.place (built_in (text_of state.table o.name)) (structure_at shapes o.name) state goes_on

-- these opened names, one after another
abbrev pub opens_then : List Shape → Enters → List ℕ → List OpenedName → State → Goes → Run
opens_then shapes enters path [] state goes_on = goes_on state
opens_then shapes enters path (o ∷ opens) state goes_on = opening shapes enters path o state (λ after. opens_then shapes enters path opens after goes_on)

-- what an opened name means, where what it leads to was left
abbrev pub at_place : Option ℕ → List Opened
at_place None = []
at_place (Some k) = opened.At k ∷ []

abbrev pub walked_at : List ℕ → Option ℕ → List Opened
walked_at walked None = []
walked_at walked (Some j) = at_place (place_in walked j)

abbrev pub meant : List ℕ → Option Opened → Option ℕ → List Opened
meant walked (Some o) j = o ∷ []
meant walked None j = walked_at walked j

abbrev pub meant_at : Place → List Opened → List Meant
meant_at place os = map (λ o. record { place = place; opened = o }) os

abbrev pub meant_by : Table → List Shape → List ℕ → OpenedName → List Meant
meant_by table shapes walked o = meant_at o.place (meant walked (built_in (text_of table o.name)) (structure_at shapes o.name))

abbrev pub opened_by : Table → List Shape → List ℕ → List OpenedName → List Meant
opened_by table shapes walked [] = []
opened_by table shapes walked (o ∷ opens) = meant_by table shapes walked o ++ opened_by table shapes walked opens

abbrev pub opens_of : List Meant → List Opened
opens_of meants = map (λ m. m.opened) meants

abbrev pub unless_clash : Option Place → Run → Run
unless_clash (Some place) run = Stops (record { kind = kinds.TwoOpened; place = place })
unless_clash None run = run

-- the state behind a structure that is left
abbrev pub leaving : ℕ → Structure → State → Count → Table → State
leaving i structure state count table = record { walked = state.walked ++ i ∷ []; order = state.order ++ structure ∷ []; count = count; table = table }

-- the structure i, which opens these
abbrev pub with_opens : Limits → ℕ → Shape → List Export → List Meant → State → Goes → Run
with_opens limits i shape exports meants state goes_on = unless_clash (two_opened state.table state.order [] meants)
    (parts_then limits shape.clauses.parts [] state.count state.table (λ body count table.
    goes_on (leaving i (record { name = shape.name.name; opens = opens_of meants; exports = exports; body = body }) state count table)))

-- the structure i, all of whose opened names are done, is left
abbrev pub leaves : List Shape → Limits → ℕ → Shape → List Export → State → Goes → Run
leaves shapes limits i shape exports state goes_on = with_opens limits i shape exports (opened_by state.table shapes state.walked shape.clauses.opens) state goes_on

abbrev pub interface_then : Defined → Shape → (List Export → Run) → Run
interface_then text shape goes_on = stops (resolved text.definitions (length text.definitions) [] shape.interface) goes_on

-- the rest of a structure: some of the names that it opens, and then itself
abbrev pub opens_left : Defined → Limits → Enters → List ℕ → ℕ → Shape → List Export → List OpenedName → State → Goes → Run
opens_left text limits enters path i shape exports opens state goes_on = opens_then text.shapes enters path opens state
    (λ after. leaves text.shapes limits i shape exports after goes_on)

-- a structure of the text: its interface, what it opens, and what it is itself
abbrev pub entered : Defined → Limits → Enters → List ℕ → Place → ℕ → Option Shape → State → Goes → Run
entered text limits enters path place i None state goes_on = Stops (record { kind = kinds.UnknownStructure; place = place })
entered text limits enters path place i (Some shape) state goes_on = interface_then text shape (λ exports. opens_left text limits enters path i shape exports shape.clauses.opens state goes_on)

-- A structure, where at most n more may stand on the path below those of `path`. A path with more structures than there are would
-- have one twice, so it would be a circle.
unfoldable pub enters : Defined → Limits → ℕ → List ℕ → Enters
enters text limits zero path place i state goes_on = Stops (record { kind = kinds.Circle; place = place })
enters text limits (suc n) path place i state goes_on =
    entered text limits (enters text limits n (i ∷ path)) (i ∷ path) place i (slice_get text.shapes i) state goes_on

-- ---- the whole

abbrev pub start : Place
start = record { file = 0; line = 1; column = 1 }

abbrev pub starting : Table → ℕ → State
starting names taken = record { walked = []; order = []; count = record { number = 0; taken = taken }; table = names }

-- the walk from the entry, where its interface lists the value `main`
abbrev pub from_entry : Table → Defined → Limits → ℕ → Shape → List Export → Run
from_entry names text limits taken shape exports = if list_any (is_main names) exports
    then enters text limits (length text.shapes) [] start (length text.shapes - 1) (starting names taken) (λ state. Done state.order state.table)
    else Stops (record { kind = kinds.NoMain; place = shape.form })

abbrev pub by_entry : Table → Defined → Limits → ℕ → Option Shape → Run
by_entry names text limits taken None = Stops (record { kind = kinds.NoMain; place = start })
by_entry names text limits taken (Some shape) = interface_then text shape (from_entry names text limits taken shape)

abbrev pub by_text : Table → Limits → ℕ → Result Defined Trouble → Run
by_text names limits taken (Err trouble) = Stops trouble
by_text names limits taken (Ok text) = by_entry names text limits taken (last_of text.shapes)

-- a text of structures, where so many bytes were taken
abbrev pub walk_of : Table → Limits → List Datum → ℕ → Run
walk_of names limits ds taken = by_text names limits taken (defined_by names nothing ds)

-- the one structure of a text without structures, where `user` and `main` have these numbers
abbrev pub user : Name → Name → List Datum → Structure
user name main ds = record { name = name; opens = opened.Prescheme ∷ []; exports = record { name = main; syntax = false; place = start } ∷ []; body = ds }

-- the table with the names of that structure
abbrev pub with_user : Table → Table
with_user names = added names (codes "user")

abbrev pub with_main : Table → Table
with_main names = added (with_user names) (codes "main")

abbrev pub body_run : Table → List Datum → Run
body_run names ds = Done (user (name_in names (codes "user")) (name_in (with_user names) (codes "main")) ds ∷ []) (with_main names)

-- a text: its one structure, or the structures that its entry reaches
abbrev pub linked : Table → Limits → List Datum → ℕ → Run
linked names limits ds taken = if is_body names ds then body_run names ds else walk_of names limits ds taken
