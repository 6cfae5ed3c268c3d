-- Which data are structures and interfaces, and the first datum that breaks their shape (this project's own, after the module language of
-- Scheme 48). A list breaks a shape before its parts do, where a list that may stand in its place breaks it by itself only if a part is
-- missing from it or it is dotted; a wrong word at the front of a list breaks it at that word, and a part too many at that part.
-- Read `form table d` as: what d is as a form, or the place of the first datum in it that breaks the shape of a form.
use Rattle.std.specs.Prelude.{ℕ, List, [], ◌∷◌, ◌++◌, length, map, Bool, false, Option, Some, None, Result, Ok, Err, nat_lt, codes, slice_get, if◌then◌else◌}
use Rattle.std.specs.Str.{bytes_eq}
use Rattle.ps_base.specs.declared.faults.Place.{Place}
use Rattle.ps_base.specs.declared.names.Name.{Name}
use Rattle.ps_datum.specs.declared.datum.Datum.{Datum, out-Datum}
use Rattle.ps_datum.specs.declared.datum.DatumKind.{DatumKind, DatumKind-F, out-DatumKind}
use Rattle.ps_read.specs.Lexical.{Table}
use Rattle.ps_modules.specs.declared.types.Export.{Export}
use Rattle.ps_modules.specs.declared.shapes.OpenedName.{OpenedName}
use Rattle.ps_modules.specs.declared.shapes.FileName.{FileName}
use Rattle.ps_modules.specs.declared.shapes.Interface.{Interface}
use Rattle.ps_modules.specs.declared.shapes.Interface.TheVariants as interfaces
use Rattle.ps_modules.specs.declared.shapes.Part.{Part}
use Rattle.ps_modules.specs.declared.shapes.Part.TheVariants as parts
use Rattle.ps_modules.specs.declared.shapes.Clauses.{Clauses}
use Rattle.ps_modules.specs.declared.shapes.Form.{Form}
use Rattle.ps_modules.specs.declared.shapes.Form.TheVariants as forms

-- what a datum is read as, or the place of the first datum that breaks the shape
abbrev pub Shaped : Type 0 → Type 0
Shaped A = Result A Place

abbrev pub shaped_then : {A B : Type 0} → Shaped A → (A → Shaped B) → Shaped B
shaped_then (Ok a) goes_on = goes_on a
shaped_then (Err place) goes_on = Err place

abbrev pub place_of : Datum → Place
place_of d = (out-Datum d).place

-- a datum by its kind
abbrev pub Open : Type 0
Open = DatumKind-F DatumKind Datum

abbrev pub open_of : Datum → Open
open_of d = out-DatumKind (out-Datum d).kind

-- each of these data, from left to right
abbrev pub each : {A : Type 0} → (Datum → Shaped A) → List Datum → Shaped (List A)
each read [] = Ok []
each read (d ∷ ds) = shaped_then (read d) (λ a. shaped_then (each read ds) (λ rest. Ok (a ∷ rest)))

-- no datum stands here
abbrev pub ended : {A : Type 0} → A → List Datum → Shaped A
ended a [] = Ok a
ended a (d ∷ ds) = Err (place_of d)

-- what each of these data gives, joined in order
abbrev pub gathered : {A : Type 0} → A → (A → A → A) → (Datum → Shaped A) → List Datum → Shaped A
gathered none join read [] = Ok none
gathered none join read (d ∷ ds) = shaped_then (read d) (λ first. shaped_then (gathered none join read ds) (λ rest. Ok (join first rest)))

-- ---- names

abbrev pub symbol_by : Place → Open → Shaped OpenedName
symbol_by place (DatumKind-F.Symbol name) = Ok (record { name = name; place = place })
symbol_by place _ = Err place

abbrev pub symbol : Datum → Shaped OpenedName
symbol d = symbol_by (place_of d) (open_of d)

-- the text of a name
abbrev pub text_by : Option (List ℕ) → List ℕ
text_by None = []
text_by (Some text) = text

abbrev pub text_of : Table → Name → List ℕ
text_of table name = text_by (slice_get table name.0)

abbrev pub is_word : Table → List ℕ → Name → Bool
is_word table word name = bytes_eq (text_of table name) word

-- a list of at least so many parts
abbrev pub parts_by : Place → ℕ → Open → Shaped (List Datum)
parts_by place least (DatumKind-F.List ds) = if nat_lt (length ds) least then Err place else Ok ds
parts_by place least _ = Err place

abbrev pub parts_of : ℕ → Datum → Shaped (List Datum)
parts_of least d = parts_by (place_of d) least (open_of d)

-- the word at the front of a list, and what stands behind it
abbrev pub headed : Place → List Datum → Shaped (OpenedName × List Datum)
headed list [] = Err list
headed list (head ∷ rest) = shaped_then (symbol head) (λ word. Ok (word, rest))

abbrev pub fronted : Datum → Shaped (OpenedName × List Datum)
fronted d = shaped_then (parts_of 1 d) (headed (place_of d))

-- ---- interfaces

-- x, or (x ...)
abbrev pub listed_by : Datum → Open → Shaped (List OpenedName)
listed_by d (DatumKind-F.List ds) = each symbol ds
listed_by d _ = shaped_then (symbol d) (λ name. Ok (name ∷ []))

abbrev pub is_syntax : Table → Open → Bool
is_syntax table (DatumKind-F.Symbol name) = is_word table (codes ":syntax") name
is_syntax table _ = false

abbrev pub export : Bool → OpenedName → Export
export syntax n = record { name = n.name; syntax = syntax; place = n.place }

abbrev pub listed : Bool → Datum → Shaped (List Export)
listed syntax d = shaped_then (listed_by d (open_of d)) (λ names. Ok (map (export syntax) names))

-- (x kind) or ((x ...) kind)
abbrev pub item_parts : Table → Place → List Datum → Shaped (List Export)
item_parts table place (d ∷ kind ∷ rest) = shaped_then (listed (is_syntax table (open_of kind)) d) (λ exports. ended exports rest)
item_parts table place _ = Err place

abbrev pub marked : Table → Datum → Shaped (List Export)
marked table d = shaped_then (parts_of 2 d) (item_parts table (place_of d))

abbrev pub item_by : Table → Datum → Open → Shaped (List Export)
item_by table d (DatumKind-F.Symbol name) = Ok (record { name = name; syntax = false; place = place_of d } ∷ [])
item_by table d _ = marked table d

abbrev pub item : Table → Datum → Shaped (List Export)
item table d = item_by table d (open_of d)

abbrev pub items : Table → List Datum → Shaped (List Export)
items table ds = gathered [] (λ first rest. first ++ rest) (item table) ds

abbrev pub interface_list : Table → OpenedName → List Datum → Shaped Interface
interface_list table word rest = if is_word table (codes "export") word.name then shaped_then (items table rest) (λ exports. Ok (interfaces.Listed exports)) else Err word.place

abbrev pub exporting : Table → Datum → Shaped Interface
exporting table d = shaped_then (fronted d) (λ front. interface_list table front.0 front.1)

abbrev pub interface_by : Table → Datum → Open → Shaped Interface
interface_by table d (DatumKind-F.Symbol name) = Ok (interfaces.Named name (place_of d))
interface_by table d _ = exporting table d

abbrev pub interface : Table → Datum → Shaped Interface
interface table d = interface_by table d (open_of d)

-- ---- clauses

-- a file is a symbol, which gives its text followed by `.scm`, or a string, which gives itself
abbrev pub file_by : Table → Place → Open → Shaped FileName
file_by table place (DatumKind-F.Text bytes) = Ok (record { text = bytes; place = place })
file_by table place (DatumKind-F.Symbol name) = Ok (record { text = text_of table name ++ codes ".scm"; place = place })
file_by table place _ = Err place

abbrev pub file : Table → Datum → Shaped FileName
file table d = file_by table (place_of d) (open_of d)

abbrev pub file_parts : List FileName → List Part
file_parts files = map (λ f. parts.File f) files

abbrev pub none : Clauses
none = record { opens = []; parts = [] }

abbrev pub behind : Clauses → Clauses → Clauses
behind first rest = record { opens = first.opens ++ rest.opens; parts = first.parts ++ rest.parts }

abbrev pub clause_of : Table → OpenedName → List Datum → Shaped Clauses
clause_of table word rest =
    if is_word table (codes "open") word.name then shaped_then (each symbol rest) (λ names. Ok (record { opens = names; parts = [] }))
    else (if is_word table (codes "begin") word.name then Ok (record { opens = []; parts = parts.Forms rest ∷ [] })
    else (if is_word table (codes "files") word.name then shaped_then (each (file table) rest) (λ files. Ok (record { opens = []; parts = file_parts files }))
    else Err word.place))

abbrev pub clause : Table → Datum → Shaped Clauses
clause table d = shaped_then (fronted d) (λ front. clause_of table front.0 front.1)

abbrev pub clauses : Table → List Datum → Shaped Clauses
clauses table ds = gathered none behind (clause table) ds

-- ---- forms

abbrev pub interface_form : Table → Place → List Datum → Shaped Form
interface_form table place (name ∷ value ∷ rest) = shaped_then (symbol name) (λ n. shaped_then (interface table value) (λ i. ended (forms.Interface (record { name = n; interface = i })) rest))
interface_form table place _ = Err place

abbrev pub structure_form : Table → Place → List Datum → Shaped Form
structure_form table place (name ∷ value ∷ rest) = shaped_then (symbol name) (λ n. shaped_then (interface table value) (λ i. shaped_then (clauses table rest)
    (λ c. Ok (forms.Structure (record { form = place; name = n; interface = i; clauses = c })))))
structure_form table place _ = Err place

abbrev pub is_structure_word : Table → Name → Bool
is_structure_word table name = is_word table (codes "define-structure") name

abbrev pub is_interface_word : Table → Name → Bool
is_interface_word table name = is_word table (codes "define-interface") name

abbrev pub form_of : Table → Place → OpenedName → List Datum → Shaped Form
form_of table place word rest = if is_structure_word table word.name then structure_form table place rest
    else (if is_interface_word table word.name then interface_form table place rest else Err word.place)

-- a form of a text that has a structure or an interface
abbrev pub form : Table → Datum → Shaped Form
form table d = shaped_then (fronted d) (λ front. form_of table (place_of d) front.0 front.1)
