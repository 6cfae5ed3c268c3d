-- The rules of a kernel, which are this project's own where no section of R5RS is named.
--
-- Read the last record first: a kernel is valid where it keeps each of the named rules. Those of its text stand in `Rules`, and
-- speak of the marks of its forms, one behind the other (`Marks`).
use Rattle.std.specs.Prelude.{◌≡◌, ℕ, suc, ◌<◌, ◌≤◌, nat_lt, max, Bool, true, false, ◌&&◌, List, [], ◌∷◌, length}
use Rattle.std.specs.List.{list_all}
use Rattle.ps_datum.specs.declared.datum.Datum.{Datum, fold-Datum, out-Datum}
use Rattle.ps_datum.specs.declared.datum.DatumKind.{DatumKind, out-DatumKind}
use Rattle.ps_datum.specs.declared.datum.DatumKind.TheOpen.{DatumKind-F}
use Rattle.ps_types.specs.declared.types.Ty.{Ty, Ty-F, fold-Ty}
use Rattle.ps_types.specs.declared.types.RecordKind.{RecordKind}
use Rattle.ps_kernel.specs.declared.kernel.Kernel.{Kernel}
use Rattle.ps_kernel.specs.Most.{most_depth}
use Rattle.ps_prims.specs.Once.{EachOnce}
use Rattle.ps_prims.specs.Kinds.{IsFilled}
use Rattle.ps_kernel.specs.Lists.{Each}
use Rattle.ps_kernel.specs.Texts.{text}
use Rattle.ps_kernel.specs.Rules.{defined, IsRightText, CapturedStay}

abbrev pub all_of : List Bool → Bool
all_of bs = list_all (λ b. b) bs

-- ---- literals (R5RS 4.1.2)

abbrev pub is_some_of : List Bool → Bool
is_some_of [] = false
is_some_of (b ∷ bs) = true

-- it has no symbol, no list and no vector without members, where this is known of its parts
abbrev pub stored_node : DatumKind-F Bool Bool → Bool
stored_node (DatumKind-F.Boolean b) = true
stored_node (DatumKind-F.Integer i) = true
stored_node (DatumKind-F.Char c) = true
stored_node (DatumKind-F.Text bytes) = true
stored_node (DatumKind-F.Symbol n) = false
stored_node (DatumKind-F.List ds) = false
stored_node (DatumKind-F.Dotted ds d) = false
stored_node (DatumKind-F.Vector ds) = is_some_of ds && all_of ds

abbrev pub is_stored : Datum → Bool
is_stored = fold-Datum Bool Bool stored_node (λ d. d.kind)

abbrev pub greatest : List ℕ → ℕ
greatest [] = 0
greatest (x ∷ xs) = max x (greatest xs)

abbrev pub depth_node : DatumKind-F ℕ ℕ → ℕ
depth_node (DatumKind-F.Boolean b) = 1
depth_node (DatumKind-F.Integer i) = 1
depth_node (DatumKind-F.Char c) = 1
depth_node (DatumKind-F.Text bytes) = 1
depth_node (DatumKind-F.Symbol n) = 1
depth_node (DatumKind-F.List ds) = suc (greatest ds)
depth_node (DatumKind-F.Dotted ds d) = suc (max (greatest ds) d)
depth_node (DatumKind-F.Vector ds) = suc (greatest ds)

-- an atom is 1 deep, and a vector one deeper than its deepest member
abbrev pub datum_depth : Datum → ℕ
datum_depth = fold-Datum ℕ ℕ depth_node (λ d. d.kind)

abbrev pub is_literal_kind : DatumKind-F DatumKind Datum → Bool
is_literal_kind (DatumKind-F.Text bytes) = true
is_literal_kind (DatumKind-F.Vector ds) = true
is_literal_kind d = false

pub record IsLiteral (d : Datum) : Type 0 where
  -- it is a string or a vector
  pub kind : is_literal_kind (out-DatumKind (out-Datum d).kind) ≡ true
  pub stored : is_stored d ≡ true
  pub depth : datum_depth d ≤ most_depth

-- ---- kinds of records

abbrev pub field_node : ℕ → Ty-F Bool → Bool
field_node n Ty-F.Integer = true
field_node n Ty-F.Boolean = true
field_node n Ty-F.Char = true
field_node n Ty-F.Unit = true
field_node n Ty-F.Address = true
field_node n Ty-F.Text = true
field_node n (Ty-F.Vector b) = b
field_node n (Ty-F.Tuple r) = nat_lt r n
field_node n (Ty-F.Proc bs b) = false
field_node n (Ty-F.Var x) = false

-- a type that a field may have, where there are n kinds: no procedure type or variable, and no kind that is not there
abbrev pub is_field_type : ℕ → Ty → Bool
is_field_type n = fold-Ty Bool (field_node n)

pub record IsKind (n : ℕ) (kind : RecordKind) : Type 0 where
  pub filled : IsFilled kind
  pub types : list_all (is_field_type n) kind.fields ≡ true

-- ---- kernels

-- what a kernel keeps that `valid` answers true of
pub record IsValid (k : Kernel) : Type 0 where
  pub main : k.main < length k.definitions
  -- each definition has one form (R5RS 5.2.1)
  pub definitions : EachOnce (length k.definitions) (defined k.forms)
  pub literals : Each IsLiteral k.literals
  pub kinds : Each (IsKind (length k.kinds)) k.kinds
  pub rules : IsRightText k (text k)
  -- no local is assigned that the list of a lambda says it keeps
  pub captured_stay : CapturedStay k
