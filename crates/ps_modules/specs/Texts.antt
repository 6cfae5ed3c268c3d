-- What the forms of a text of structures define, and its entry (this project's own). The first fault is that of the first form that is
-- none, or that defines a name a second time.
use Rattle.std.specs.Prelude.{ℕ, zero, suc, ◌-◌, List, [], ◌∷◌, ◌++◌, length, map, Bool, false, Option, Some, None, Result, Ok, Err, is_some, nat_eq, slice_get, codes, ◌&&◌, ◌||◌, not, if◌then◌else◌}
use Rattle.std.specs.List.{list_any}
use Rattle.std.specs.Option.{option_map}
use Rattle.ps_base.specs.declared.faults.ModuleKind.{ModuleKind}
use Rattle.ps_base.specs.declared.faults.ModuleKind.TheVariants as kinds
use Rattle.ps_base.specs.declared.faults.Place.{Place}
use Rattle.ps_base.specs.declared.names.Name.{Name}
use Rattle.ps_datum.specs.declared.datum.Datum.{Datum}
use Rattle.ps_datum.specs.declared.datum.DatumKind.{DatumKind-F}
use Rattle.ps_read.specs.Lexical.{Table}
use Rattle.ps_modules.specs.declared.types.Export.{Export}
use Rattle.ps_modules.specs.declared.shapes.Definition.{Definition}
use Rattle.ps_modules.specs.declared.shapes.Shape.{Shape}
use Rattle.ps_modules.specs.declared.shapes.Interface.{Interface}
use Rattle.ps_modules.specs.declared.shapes.Interface.TheVariants as interfaces
use Rattle.ps_modules.specs.declared.shapes.Form.{Form}
use Rattle.ps_modules.specs.declared.shapes.Form.TheVariants as forms
use Rattle.ps_modules.specs.Shapes.{Shaped, Open, open_of, text_of, is_word, is_structure_word, is_interface_word, form}
use Rattle.ps_modules.specs.BuiltIn.{built_in}

-- a fault of structures and interfaces
pub record Trouble : Type 0 where
  pub kind : ModuleKind
  pub place : Place

-- what a text defines, in order
pub record Defined : Type 0 where
  pub shapes : List Shape
  pub definitions : List Definition

-- the first place of a number in a list
abbrev pub place_in : List ℕ → ℕ → Option ℕ
place_in [] j = None
place_in (i ∷ numbers) j = if nat_eq j i then Some 0 else option_map suc (place_in numbers j)

-- the names of structures and of interfaces, by their numbers
abbrev pub shape_names : List Shape → List ℕ
shape_names shapes = map (λ s. s.name.name.0) shapes

abbrev pub definition_names : List Definition → List ℕ
definition_names definitions = map (λ d. d.name.name.0) definitions

-- the number of the first structure of a name
abbrev pub structure_at : List Shape → Name → Option ℕ
structure_at shapes name = place_in (shape_names shapes) name.0

-- the first interface of a name
abbrev pub definition_by : List Definition → Option ℕ → Option Definition
definition_by definitions None = None
definition_by definitions (Some i) = slice_get definitions i

abbrev pub its_interface : Option Definition → Option Interface
its_interface None = None
its_interface (Some d) = Some d.interface

abbrev pub interface_of : List Definition → Name → Option Interface
interface_of definitions name = its_interface (definition_by definitions (place_in (definition_names definitions) name.0))

abbrev pub with_form : Table → Defined → Form → Result Defined Trouble
with_form table text (forms.Structure shape) = if is_some (built_in (text_of table shape.name.name)) || is_some (structure_at text.shapes shape.name.name)
    then Err (record { kind = kinds.DefinedTwice; place = shape.name.place })
    else Ok (record { shapes = text.shapes ++ shape ∷ []; definitions = text.definitions })
with_form table text (forms.Interface definition) = if is_some (place_in (definition_names text.definitions) definition.name.name.0)
    then Err (record { kind = kinds.DefinedTwice; place = definition.name.place })
    else Ok (record { shapes = text.shapes; definitions = text.definitions ++ definition ∷ [] })

abbrev pub and_then : {A B : Type 0} → Result A Trouble → (A → Result B Trouble) → Result B Trouble
and_then (Ok a) goes_on = goes_on a
and_then (Err trouble) goes_on = Err trouble

abbrev pub formed : Table → Defined → Shaped Form → Result Defined Trouble
formed table text (Ok f) = with_form table text f
formed table text (Err place) = Err (record { kind = kinds.BadClause; place = place })

-- the forms from left to right, behind what is defined already
abbrev pub defined_by : Table → Defined → List Datum → Result Defined Trouble
defined_by table text [] = Ok text
defined_by table text (d ∷ ds) = and_then (formed table text (form table d)) (λ more. defined_by table more ds)

abbrev pub nothing : Defined
nothing = record { shapes = []; definitions = [] }

-- ---- whether a text has structures

abbrev pub is_defining : Table → Open → Bool
is_defining table (DatumKind-F.Symbol name) = is_structure_word table name || is_interface_word table name
is_defining table _ = false

abbrev pub begins_defining : Table → List Datum → Bool
begins_defining table [] = false
begins_defining table (head ∷ rest) = is_defining table (open_of head)

abbrev pub is_form_by : Table → Open → Bool
is_form_by table (DatumKind-F.List ds) = begins_defining table ds
is_form_by table _ = false

-- a list that begins with `define-structure` or `define-interface`
abbrev pub is_form : Table → Datum → Bool
is_form table d = is_form_by table (open_of d)

-- all forms are the body of one structure: there is one, and none is a list that begins so
abbrev pub is_body : Table → List Datum → Bool
is_body table [] = false
is_body table (d ∷ ds) = not (list_any (is_form table) (d ∷ ds))

-- ---- interfaces by their names

abbrev pub looked_up : Place → Option Interface → (Interface → Shaped (List Export)) → Shaped (List Export)
looked_up place None goes_on = Err place
looked_up place (Some i) goes_on = goes_on i

-- What an interface lists, or the place of the name that is not defined or closes a circle of names. At most n names more may be
-- looked up behind those that were seen: as many as there are definitions.
abbrev pub resolved : List Definition → ℕ → List ℕ → Interface → Shaped (List Export)
resolved definitions n seen (interfaces.Listed exports) = Ok exports
resolved definitions zero seen (interfaces.Named name place) = Err place
resolved definitions (suc n) seen (interfaces.Named name place) = if is_some (place_in seen name.0) then Err place
    else looked_up place (interface_of definitions name) (λ i. resolved definitions n (seen ++ name.0 ∷ []) i)

-- ---- the entry

abbrev pub is_main : Table → Export → Bool
is_main table e = not e.syntax && is_word table (codes "main") e.name

abbrev pub last_of : List Shape → Option Shape
last_of shapes = slice_get shapes (length shapes - 1)
