-- What the kinds of records must be, and which primitives they have (this project's own).
use Rattle.std.specs.Prelude.{◌≡◌, ℕ, ◌<◌, nat_lt, Bool, true, List, length, slice_get, Some}
use Rattle.ps_base.specs.declared.language.PrimName.{PrimName}
use Rattle.ps_base.specs.declared.language.PrimName.TheVariants as prims
use Rattle.ps_types.specs.declared.types.RecordKind.{RecordKind}
use Rattle.ps_prims.specs.Once.{EachOnce}
use Rattle.ps_prims.specs.Records.{fields}

-- it has at least one field, and its maker names each field once
pub record IsFilled (kind : RecordKind) : Type 0 where
  pub fields : 0 < length kind.fields
  pub maker : EachOnce (length kind.fields) kind.maker

pub record AreKinds (kinds : List RecordKind) : Type 0 where
  pub each : (k : ℕ) (kind : RecordKind) → slice_get kinds k ≡ Some kind → IsFilled kind

-- the kind and the field of a primitive of records are there
abbrev pub is_there : List RecordKind → PrimName → Bool
is_there kinds (prims.Maker k) = nat_lt k (length kinds)
is_there kinds (prims.Predicate k) = nat_lt k (length kinds)
is_there kinds (prims.Accessor k f) = nat_lt f (length (fields kinds k))
is_there kinds (prims.Modifier k f) = nat_lt f (length (fields kinds k))
is_there kinds p = true

pub record IsThere (kinds : List RecordKind) (p : PrimName) : Type 0 where
  pub there : is_there kinds p ≡ true
