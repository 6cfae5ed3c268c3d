-- Whether two opened names give one name different bindings (this project's own). A name of the language has one binding in all
-- built-in structures, and a name of any other structure one in each of these.
use Rattle.std.specs.Prelude.{ℕ, List, [], ◌∷◌, ◌++◌, map, Bool, true, false, Option, Some, None, nat_eq, if◌then◌else◌, slice_get}
use Rattle.std.specs.Option.{option_and_then}
use Rattle.ps_base.specs.Names.{number_of}
use Rattle.ps_base.specs.declared.faults.Place.{Place}
use Rattle.ps_read.specs.Lexical.{Table}
use Rattle.ps_modules.specs.declared.openings.Meant.{Meant}
use Rattle.ps_modules.specs.declared.types.Export.{Export}
use Rattle.ps_modules.specs.declared.types.Opened.{Opened}
use Rattle.ps_modules.specs.declared.types.Opened.TheVariants as opened
use Rattle.ps_modules.specs.declared.types.Structure.{Structure}
use Rattle.ps_modules.specs.BuiltIn.{all_names, memory_names, record_names}

-- a name, and the number of the structure that it is of, where it is not of the language
abbrev pub Given : Type 0
Given = ℕ × Option ℕ

abbrev pub given_by : Option ℕ → List ℕ → List Given
given_by owner names = map (λ n. (n, owner)) names

-- the names of these texts: a text that is in no table of names is no name that a structure can export
abbrev pub and_number : Option ℕ → List ℕ → List ℕ
and_number None rest = rest
and_number (Some n) rest = n ∷ rest

abbrev pub numbers_in : Table → List (List ℕ) → List ℕ
numbers_in table [] = []
numbers_in table (text ∷ texts) = and_number (number_of table text) (numbers_in table texts)

abbrev pub names_of : List Export → List ℕ
names_of exports = map (λ e. e.name.0) exports

abbrev pub exports_by : Option Structure → List Export
exports_by None = []
exports_by (Some s) = s.exports

-- what an opened structure gives, where these were linked
abbrev pub gives : Table → List Structure → Opened → List Given
gives table order opened.Prescheme = given_by None (numbers_in table all_names)
gives table order opened.Memory = given_by None (numbers_in table memory_names)
gives table order opened.Records = given_by None (numbers_in table record_names)
gives table order (opened.At k) = given_by (Some k) (names_of (exports_by (slice_get order k)))

abbrev pub same_owner : Option ℕ → Option ℕ → Bool
same_owner None None = true
same_owner (Some i) (Some j) = nat_eq i j
same_owner _ _ = false

-- whose a name is
abbrev pub owner_of : List Given → ℕ → Option (Option ℕ)
owner_of [] name = None
owner_of (k ∷ known) name = if nat_eq name k.0 then Some k.1 else owner_of known name

-- what is known behind one name more, or nothing where it has another binding already
abbrev pub taken_by : List Given → Given → Option (Option ℕ) → Option (List Given)
taken_by known new None = Some (known ++ new ∷ [])
taken_by known new (Some owner) = if same_owner owner new.1 then Some known else None

abbrev pub taken : List Given → Given → Option (List Given)
taken known new = taken_by known new (owner_of known new.0)

abbrev pub all_taken : List Given → List Given → Option (List Given)
all_taken known [] = Some known
all_taken known (new ∷ news) = option_and_then (λ more. all_taken more news) (taken known new)

abbrev pub unless_taken : Place → Option (List Given) → (List Given → Option Place) → Option Place
unless_taken place None goes_on = Some place
unless_taken place (Some known) goes_on = goes_on known

-- the first opened name that gives a name another binding than those before it
abbrev pub two_opened : Table → List Structure → List Given → List Meant → Option Place
two_opened table order known [] = None
two_opened table order known (o ∷ opens) = unless_taken o.place (all_taken known (gives table order o.opened)) (λ more. two_opened table order more opens)
