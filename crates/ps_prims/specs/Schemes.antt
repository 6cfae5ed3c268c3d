-- The types of primitives (this project's own). Read `scheme kinds p` as the type that the row of p says, where these are the
-- kinds of records: a row of records has the types of the fields themselves.
use Rattle.std.specs.Prelude.{ℕ, List, [], ◌∷◌, map, Bool, true, false, ◌||◌, if◌then◌else◌, slice_get, Option, Some, None}
use Rattle.ps_base.specs.declared.language.PrimName.{PrimName}
use Rattle.ps_base.specs.declared.language.PrimName.TheVariants as prims
use Rattle.ps_types.specs.declared.types.Ty.{Ty}
use Rattle.ps_types.specs.declared.types.Ty.TheVariants as types
use Rattle.ps_types.specs.declared.types.RecordKind.{RecordKind}
use Rattle.ps_types.specs.declared.types.Scheme.{Scheme}
use Rattle.ps_prims.specs.Sorts.{Sort, Integer, Boolean, Char, Unit', Address, Text, Vector, Record, Any, first_order}
use Rattle.ps_prims.specs.Records.{fields, maker_order}
use Rattle.ps_prims.specs.Rows.{row}

-- the type variable of a row is number 0
abbrev pub type_of : Sort → Ty
type_of Integer = types.Integer
type_of Boolean = types.Boolean
type_of Char = types.Char
type_of Unit' = types.Unit
type_of Address = types.Address
type_of Text = types.Text
type_of Vector = types.Vector (types.Var 0)
type_of (Record k) = types.Tuple k
type_of Any = types.Var 0

abbrev pub is_variable : Sort → Bool
is_variable Integer = false
is_variable Boolean = false
is_variable Char = false
is_variable Unit' = false
is_variable Address = false
is_variable Text = false
is_variable Vector = true
is_variable (Record k) = false
is_variable Any = true

abbrev pub has_variable : List Sort → Bool
has_variable [] = false
has_variable (s ∷ ss) = is_variable s || has_variable ss

-- a row that speaks of the type variable is of any type there
abbrev pub variables_of : List Sort → Sort → List ℕ
variables_of operands answer = if is_variable answer || has_variable operands then 0 ∷ [] else []

abbrev pub scheme_of_sorts : List Sort → Sort → Scheme
scheme_of_sorts operands answer = record {
  variables = variables_of operands answer;
  body = types.Proc (map type_of operands) (type_of answer);
}

-- the type of a field; of one that is not there it is a variable
abbrev pub type_in : Option Ty → Ty
type_in None = types.Var 0
type_in (Some t) = t

abbrev pub type_of_field : List Ty → ℕ → Ty
type_of_field ts f = type_in (slice_get ts f)

-- a type without variables of the row's own
abbrev pub procedure : List Ty → Ty → Scheme
procedure ts t = record { variables = []; body = types.Proc ts t }

abbrev pub scheme : List RecordKind → PrimName → Scheme
scheme kinds (prims.Maker k) = procedure (map (type_of_field (fields kinds k)) (maker_order kinds k)) (types.Tuple k)
scheme kinds (prims.Predicate k) = procedure (types.Tuple k ∷ []) types.Boolean
scheme kinds (prims.Accessor k f) = procedure (types.Tuple k ∷ []) (type_of_field (fields kinds k) f)
scheme kinds (prims.Modifier k f) = procedure (types.Tuple k ∷ type_of_field (fields kinds k) f ∷ []) types.Unit
scheme kinds p = scheme_of_sorts (row first_order kinds p).operands (row first_order kinds p).answer
