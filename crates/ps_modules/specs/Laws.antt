-- Laws of linking (this project's own).
use Rattle.std.specs.Prelude.{◌≡◌, ℕ, suc, ◌-◌, List, [], ◌∷◌, length, Bool, true, ◌&&◌, nat_lt, Some, Ok, slice_get}
use Rattle.std.specs.List.{list_any, list_all}
use Rattle.ps_base.specs.declared.limits.Limits.{Limits}
use Rattle.ps_datum.specs.declared.datum.Datum.{Datum}
use Rattle.ps_library.specs.LibraryStates.{LibraryState, Files}
use Rattle.ps_read.specs.Lexical.{Table}
use Rattle.ps_modules.specs.declared.types.Opened.{Opened}
use Rattle.ps_modules.specs.declared.types.Opened.TheVariants as opened
use Rattle.ps_modules.specs.declared.types.Structure.{Structure}
use Rattle.ps_modules.specs.Linking.{Answered, Links}
use Rattle.ps_modules.specs.Playing.{Outcome}
use Rattle.ps_modules.specs.Runs.{Run}
use Rattle.ps_modules.specs.Texts.{is_main}
use Rattle.ps_modules.specs.Walking.{linked}

-- where these are the files, a walk comes to one end alone
abbrev pub WalkHasOneEnd : Type 0
WalkHasOneEnd = (files : Files) (run : Run) (one other : Outcome) → Answered files run one → Answered files run other → one ≡ other

-- ---- the order of structures

-- what is opened stands before number k, or is built in
abbrev pub is_before : ℕ → Opened → Bool
is_before k (opened.At j) = nat_lt j k
is_before k _ = true

-- structures, numbered from k, that open only such as stand before them
abbrev pub open_before : ℕ → List Structure → Bool
open_before k [] = true
open_before k (s ∷ rest) = list_all (is_before k) s.opens && open_before (suc k) rest

-- each structure opens only such as stand before it, and the last one is there and exports `main` as a value
pub record StandInOrder (table : Table) (order : List Structure) : Type 0 where
  pub before : open_before 0 order ≡ true
  pub entry : Structure
  pub last : slice_get order (length order - 1) ≡ Some entry
  pub main : list_any (is_main table) entry.exports ≡ true

abbrev pub StructuresStandInOrder : Type 0
StructuresStandInOrder = (names : Table) (limits : Limits) (ds : List Datum) (taken : ℕ) (olds news : List LibraryState) (order : List Structure) (table : Table)
    → Links (linked names limits ds taken) olds news (Ok (order, table)) → StandInOrder table order
