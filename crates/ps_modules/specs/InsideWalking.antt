-- What the parts of the walk do (private to it).
use Rattle.std.specs.Prelude.{◌≡◌, ℕ, suc, zero, ◌+◌, ◌-◌, ◌<◌, ◌≤◌, List, [], ◌∷◌, length, Bool, false, ◌||◌, Option, Some, None, Result, Ok, Err, slice_get, is_some, codes}
use Rattle.ps_base.specs.declared.faults.Refusal.{Refusal}
use Rattle.ps_base.specs.declared.limits.Limits.{Limits}
use Rattle.ps_datum.specs.declared.datum.Datum.{Datum}
use Rattle.ps_library.specs.LibraryStates.{LibraryState}
use Rattle.ps_library.specs.Fetching.{AllStay}
use Rattle.ps_read.specs.Lexical.{Table, name_in}
use Rattle.ps_modules.specs.declared.files.Body.{Body}
use Rattle.ps_modules.specs.declared.files.Count.{Count}
use Rattle.ps_modules.specs.declared.openings.Meant.{Meant}
use Rattle.ps_modules.specs.declared.shapes.OpenedName.{OpenedName}
use Rattle.ps_modules.specs.declared.shapes.Part.{Part}
use Rattle.ps_modules.specs.declared.shapes.Shape.{Shape}
use Rattle.ps_modules.specs.declared.types.Export.{Export}
use Rattle.ps_modules.specs.declared.types.Opened.{Opened}
use Rattle.ps_modules.specs.declared.types.Structure.{Structure}
use Rattle.ps_modules.specs.declared.walking.Left.{Left}
use Rattle.ps_modules.specs.InsideTexts.{Comes}
use Rattle.ps_modules.specs.Openings.{two_opened}
use Rattle.ps_modules.specs.Playing.{Outcome, Plays}
use Rattle.ps_modules.specs.Runs.{Run}
use Rattle.ps_modules.specs.Texts.{place_in}
use Rattle.ps_modules.specs.Walking.{State, Goes, Enters, parts_then, is_on, opening, opens_of, unless_clash, leaving, leaves, user, with_user, with_main}

-- ---- the parts of a body

-- the parts were gathered: a walk that wants them goes on behind them
pub record Gathered (limits : Limits) (parts : List Part) (count : Count) (table : Table) (olds : List LibraryState) (later : Table) (news : List LibraryState) (body : Body) : Type 0 where
  pub taken : body.count.taken ≤ limits.all_bytes
  pub room : length later + (limits.all_bytes - body.count.taken) ≤ length table + (limits.all_bytes - count.taken)
  pub stay : AllStay olds news
  pub goes_on : (goes : List Datum → Count → Table → Run) (last : List LibraryState) (out : Outcome)
      → Plays (goes body.forms body.count later) news last out → Plays (parts_then limits parts [] count table goes) olds last out

-- they were not: a walk that wants them is refused
pub record Ungathered (limits : Limits) (parts : List Part) (count : Count) (table : Table) (olds news : List LibraryState) (e : Refusal) : Type 0 where
  pub refuses : (goes : List Datum → Count → Table → Run) → Plays (parts_then limits parts [] count table goes) olds news (Err e)

abbrev pub BodyIs : Limits → List Part → Count → Table → List LibraryState → Table → List LibraryState → Result Body Refusal → Type 0
BodyIs limits parts count table olds later news (Ok body) = Gathered limits parts count table olds later news body
BodyIs limits parts count table olds later news (Err e) = Ungathered limits parts count table olds news e

-- ---- opened names

abbrev pub listing : Option Opened → List Opened
listing None = []
listing (Some o) = o ∷ []

-- a structure was met: it was left, or it stands on the path
pub record IsMet (n : ℕ) (met : List Bool) (path walked : List ℕ) : Type 0 where
  pub are : (j : ℕ) → j < n → slice_get met j ≡ Some (is_some (place_in walked j) || is_on j path)

-- where an opened name leads
abbrev pub LeadsTo : List Shape → List ℕ → OpenedName → Table → List ℕ → List Bool → Result (Option ℕ) Refusal → Type 0
LeadsTo shapes path o table walked met (Ok None) = (enters : Enters) (order : List Structure) (count : Count) (goes_on : Goes)
    → opening shapes enters path o (record { walked = walked; order = order; count = count; table = table }) goes_on
    ≡ goes_on (record { walked = walked; order = order; count = count; table = table })
LeadsTo shapes path o table walked met (Ok (Some j)) = (j < length shapes) × (slice_get met j ≡ Some false)
    × ((enters : Enters) (order : List Structure) (count : Count) (goes_on : Goes)
    → opening shapes enters path o (record { walked = walked; order = order; count = count; table = table }) goes_on
    ≡ enters o.place j (record { walked = walked; order = order; count = count; table = table }) goes_on)
LeadsTo shapes path o table walked met (Err e) = (enters : Enters) (order : List Structure) (count : Count) (goes_on : Goes)
    → Comes (opening shapes enters path o (record { walked = walked; order = order; count = count; table = table }) goes_on) e

abbrev pub opens_by : Option Shape → List OpenedName
opens_by None = []
opens_by (Some s) = s.clauses.opens

abbrev pub all_unmet : ℕ → List Bool
all_unmet zero = []
all_unmet (suc n) = false ∷ all_unmet n

-- ---- a structure that is left

abbrev pub OpensAre : Table → List Structure → List Meant → Result (List Opened) Refusal → Type 0
OpensAre table order meants (Ok opens) = (two_opened table order [] meants ≡ None) × (opens ≡ opens_of meants)
OpensAre table order meants (Err e) = (run : Run) → Comes (unless_clash (two_opened table order [] meants) run) e

pub record LeftSo (shapes : List Shape) (limits : Limits) (shape : Shape) (exports : List Export) (state : State) (olds : List LibraryState) (later : Table) (news : List LibraryState) (left : Left) : Type 0 where
  pub taken : left.count.taken ≤ limits.all_bytes
  pub room : length later + (limits.all_bytes - left.count.taken) ≤ length state.table + (limits.all_bytes - state.count.taken)
  pub stay : AllStay olds news
  pub goes_on : (i : ℕ) (goes : Goes) (last : List LibraryState) (out : Outcome)
      → Plays (goes (leaving i left.structure state left.count later)) news last out → Plays (leaves shapes limits i shape exports state goes) olds last out

abbrev pub LeftIs : List Shape → Limits → Shape → List Export → State → List LibraryState → Table → List LibraryState → Result Left Refusal → Type 0
LeftIs shapes limits shape exports state olds later news (Ok left) = LeftSo shapes limits shape exports state olds later news left
LeftIs shapes limits shape exports state olds later news (Err e) = (i : ℕ) (goes : Goes) → Plays (leaves shapes limits i shape exports state goes) olds news (Err e)

-- ---- the whole

abbrev pub outcome : Result (List Structure) Refusal → Table → Outcome
outcome (Ok order) table = Ok (order, table)
outcome (Err e) table = Err e

-- the one structure of a text without structures, and the table behind it
pub record IsUser (names : Table) (ds : List Datum) (structures : List Structure) (later : Table) : Type 0 where
  pub is : structures ≡ user (name_in names (codes "user")) (name_in (with_user names) (codes "main")) ds ∷ []
  pub table : later ≡ with_main names
