-- Record types (this project's own, after Pre-Scheme and SRFI 9). Read `record_in fs` as: the record type that the forms fs define behind
-- `define-record-type`, and nothing where they have another shape. A field is told by its name with its stamps.
use Rattle.std.specs.Prelude.{ℕ, Bool, ◌&&◌, ◌==◌, List, [], ◌∷◌, length, map, Option, Some, None}
use Rattle.std.specs.Option.{option_map, option_and_then}
use Rattle.ps_pattern.specs.declared.syntax.Ident.{Ident}
use Rattle.ps_pattern.specs.declared.syntax.Syntax.{Syntax}
use Rattle.ps_pattern.specs.Identifiers.{Keys, key, place_of}
use Rattle.ps_pattern.specs.Matching.{collect}
use Rattle.ps_pattern.specs.Compiling.{ident_at}
use Rattle.ps_derived.specs.Forms.{forms_of, idents_in, when}
use Rattle.ps_derived.specs.Distinct.{are_distinct}
use Rattle.ps_derived.specs.PartsOf.{FieldOf, RecordTypeOf}

abbrev pub field_for : Ident → Syntax → Option Ident → Ident → FieldOf
field_for name t modifier accessor = record { name = name; kind = t; accessor = accessor; modifier = modifier }

abbrev pub modified : Ident → Syntax → Ident → Ident → FieldOf
modified name t accessor modifier = field_for name t (Some modifier) accessor

-- (field type accessor) or (field type accessor modifier)
abbrev pub field_in : List Syntax → Option FieldOf
field_in (x ∷ t ∷ a ∷ []) = option_and_then (λ name. option_map (field_for name t None) (ident_at a)) (ident_at x)
field_in (x ∷ t ∷ a ∷ m ∷ []) =
    option_and_then (λ name. option_and_then (λ accessor. option_map (modified name t accessor) (ident_at m)) (ident_at a)) (ident_at x)
field_in fs = None

abbrev pub field_at : Syntax → Option FieldOf
field_at f = option_and_then field_in (forms_of f)

abbrev pub field_names : List FieldOf → List Ident
field_names fs = map (λ f. f.name) fs

-- at least one field, and none of another one's name
abbrev pub if_fields_different : List FieldOf → Option (List FieldOf)
if_fields_different [] = None
if_fields_different (f ∷ fs) = when (are_distinct (field_names (f ∷ fs))) (f ∷ fs)

abbrev pub fields_in : List Syntax → Option (List FieldOf)
fields_in fs = collect (map field_at fs)

abbrev pub different_fields : List Syntax → Option (List FieldOf)
different_fields fs = option_and_then if_fields_different (fields_in fs)

-- the index of the field that an operand of the maker names, where the fields have these keys
abbrev pub index_in : Keys → Ident → Option ℕ
index_in keys id = place_of keys (key id)

abbrev pub indices_in : Keys → List Ident → Option (List ℕ)
indices_in keys ids = collect (map (index_in keys) ids)

-- the maker names every field once
abbrev pub is_whole : List Ident → List Ident → Bool
is_whole names ids = (length ids == length names) && are_distinct ids

abbrev pub operands_in : List Ident → List Ident → Option (List ℕ)
operands_in names ids = option_and_then (indices_in (map key names)) (when (is_whole names ids) ids)

-- (maker field ...)
pub record MakerOf : Type 0 where
  pub name : Ident
  pub operands : List Syntax

abbrev pub maker_for : List Syntax → Ident → MakerOf
maker_for xs id = record { name = id; operands = xs }

abbrev pub maker_in : List Syntax → Option MakerOf
maker_in [] = None
maker_in (m ∷ xs) = option_map (maker_for xs) (ident_at m)

abbrev pub maker_at : Syntax → Option MakerOf
maker_at f = option_and_then maker_in (forms_of f)

-- pred spec ..., or spec ...
pub record RestOf : Type 0 where
  pub predicate : Option Ident
  pub fields : List Syntax

abbrev pub rest_by : Option Ident → Syntax → List Syntax → RestOf
rest_by (Some id) f fs = record { predicate = Some id; fields = fs }
rest_by None f fs = record { predicate = None; fields = f ∷ fs }

abbrev pub rest_of : List Syntax → RestOf
rest_of [] = record { predicate = None; fields = [] }
rest_of (f ∷ fs) = rest_by (ident_at f) f fs

abbrev pub record_for : Ident → Ident → MakerOf → Option Ident → List FieldOf → List ℕ → RecordTypeOf
record_for n k m pred fields operands =
    record { name = n; kind = k; maker = m.name; operands = operands; predicate = pred; fields = fields }

-- the record type of this maker and these fields
abbrev pub made : Ident → Ident → MakerOf → Option Ident → List FieldOf → Option RecordTypeOf
made n k m pred fields =
    option_map (record_for n k m pred fields) (option_and_then (operands_in (field_names fields)) (idents_in m.operands))

abbrev pub record_behind : Ident → Ident → RestOf → MakerOf → Option RecordTypeOf
record_behind n k rest m = option_and_then (made n k m rest.predicate) (different_fields rest.fields)

-- n :n (maker field ...) pred spec ...
abbrev pub record_in : List Syntax → Option RecordTypeOf
record_in (n ∷ k ∷ m ∷ rest) =
    option_and_then (λ name. option_and_then (λ kind. option_and_then (record_behind name kind (rest_of rest)) (maker_at m)) (ident_at k)) (ident_at n)
record_in fs = None
