-- What the operands and the answers of primitives are (this project's own).
--
-- A row is about some type V of values. `Values` says which of them are values of first order, and which word is shown of
-- each; the values of a program at compile time are of first order alone.
use Rattle.std.specs.Prelude.{ℕ, ℤ, Bool, true, false, ◌&&◌, nat_eq, if◌then◌else◌, List, [], ◌∷◌, Option, Some, None, is_some}
pub use Rattle.ps_prims.specs.declared.sorts.Sort.{Sort}
pub use Rattle.ps_prims.specs.declared.sorts.Sort.TheVariants.{Integer, Boolean, Char, Unit as Unit', Address, Text, Vector, Record, Any}
use Rattle.byte_store.specs.declared.pointer.Pointer.{Pointer}
use Rattle.byte_store.specs.declared.pointer.Word.{Word}
use Rattle.byte_store.specs.declared.pointer.Value.{Value}
use Rattle.byte_store.specs.declared.pointer.Value.TheVariants as value
use Rattle.byte_store.specs.Words.{word_of}

-- the values that a program has
pub record Values (V : Type 0) : Type 0 where
  -- the value of first order that it is, where it is one
  pub seen : V → Option Value
  pub of : Value → V
  pub word : V → Word

-- the values of first order themselves
abbrev pub first_order : Values Value
first_order = record { seen = λ v. Some v; of = λ v. v; word = word_of }

-- what a row sees of a value of a sort
abbrev pub Meant : Type 0 → Sort → Type 0
Meant V Integer = ℤ
Meant V Boolean = Bool
Meant V Char = ℕ
Meant V Unit' = Unit {0}
Meant V Address = Pointer
Meant V Text = Pointer
Meant V Vector = Pointer
Meant V (Record k) = Pointer
Meant V Any = V

abbrev pub as_integer : Value → Option ℤ
as_integer (value.Integer i) = Some i
as_integer (value.Boolean b) = None
as_integer (value.Char c) = None
as_integer value.Unit = None
as_integer (value.Address p) = None
as_integer (value.Text p) = None
as_integer (value.Vector p) = None
as_integer (value.Tuple k p) = None

abbrev pub as_boolean : Value → Option Bool
as_boolean (value.Integer i) = None
as_boolean (value.Boolean b) = Some b
as_boolean (value.Char c) = None
as_boolean value.Unit = None
as_boolean (value.Address p) = None
as_boolean (value.Text p) = None
as_boolean (value.Vector p) = None
as_boolean (value.Tuple k p) = None

abbrev pub as_char : Value → Option ℕ
as_char (value.Integer i) = None
as_char (value.Boolean b) = None
as_char (value.Char c) = Some c
as_char value.Unit = None
as_char (value.Address p) = None
as_char (value.Text p) = None
as_char (value.Vector p) = None
as_char (value.Tuple k p) = None

abbrev pub as_unit : Value → Option (Unit {0})
as_unit (value.Integer i) = None
as_unit (value.Boolean b) = None
as_unit (value.Char c) = None
as_unit value.Unit = Some tt
as_unit (value.Address p) = None
as_unit (value.Text p) = None
as_unit (value.Vector p) = None
as_unit (value.Tuple k p) = None

abbrev pub as_address : Value → Option Pointer
as_address (value.Integer i) = None
as_address (value.Boolean b) = None
as_address (value.Char c) = None
as_address value.Unit = None
as_address (value.Address p) = Some p
as_address (value.Text p) = None
as_address (value.Vector p) = None
as_address (value.Tuple k p) = None

abbrev pub as_text : Value → Option Pointer
as_text (value.Integer i) = None
as_text (value.Boolean b) = None
as_text (value.Char c) = None
as_text value.Unit = None
as_text (value.Address p) = None
as_text (value.Text p) = Some p
as_text (value.Vector p) = None
as_text (value.Tuple k p) = None

abbrev pub as_vector : Value → Option Pointer
as_vector (value.Integer i) = None
as_vector (value.Boolean b) = None
as_vector (value.Char c) = None
as_vector value.Unit = None
as_vector (value.Address p) = None
as_vector (value.Text p) = None
as_vector (value.Vector p) = Some p
as_vector (value.Tuple k p) = None

-- the pointer of a record of a kind
abbrev pub as_record : ℕ → Value → Option Pointer
as_record k (value.Integer i) = None
as_record k (value.Boolean b) = None
as_record k (value.Char c) = None
as_record k value.Unit = None
as_record k (value.Address p) = None
as_record k (value.Text p) = None
as_record k (value.Vector p) = None
as_record k (value.Tuple j p) = if nat_eq j k then Some p else None

module _ {V : Type 0} (values : Values V) where
  abbrev pub and_seen : {A : Type 0} → Option Value → (Value → Option A) → Option A
  and_seen None f = None
  and_seen (Some v) f = f v

  -- what a row sees of a value, where it is of the sort
  abbrev pub read : (s : Sort) → V → Option (Meant V s)
  read Integer v = and_seen (values.seen v) as_integer
  read Boolean v = and_seen (values.seen v) as_boolean
  read Char v = and_seen (values.seen v) as_char
  read Unit' v = and_seen (values.seen v) as_unit
  read Address v = and_seen (values.seen v) as_address
  read Text v = and_seen (values.seen v) as_text
  read Vector v = and_seen (values.seen v) as_vector
  read (Record k) v = and_seen (values.seen v) (as_record k)
  read Any v = Some v

  -- the value that an answer of a sort is
  abbrev pub answered : (s : Sort) → Meant V s → V
  answered Integer i = values.of (value.Integer i)
  answered Boolean b = values.of (value.Boolean b)
  answered Char c = values.of (value.Char c)
  answered Unit' u = values.of value.Unit
  answered Address p = values.of (value.Address p)
  answered Text p = values.of (value.Text p)
  answered Vector p = values.of (value.Vector p)
  answered (Record k) p = values.of (value.Tuple k p)
  answered Any v = v

-- A function of operands of some sorts, one after another.
abbrev pub Taking : Type 0 → List Sort → Type 0 → Type 0
Taking V [] R = R
Taking V (s ∷ ss) R = Meant V s → Taking V ss R

module _ {V R : Type 0} (values : Values V) where
  abbrev pub and_takes : {A : Type 0} → Option A → (A → Option R) → Option R
  and_takes None next = None
  and_takes (Some a) next = next a

  -- such a function of values, where there are so many and each is of its sort
  abbrev pub applied : (ss : List Sort) → Taking V ss R → List V → Option R
  applied [] r [] = Some r
  applied [] r (v ∷ vs) = None
  applied (s ∷ ss) f [] = None
  applied (s ∷ ss) f (v ∷ vs) = and_takes (read values s v) (λ x. applied ss (f x) vs)

  -- such a function that takes the values themselves
  abbrev pub collecting : (ss : List Sort) → (List V → R) → Taking V ss R
  collecting [] f = f []
  collecting (s ∷ ss) f = λ x. collecting ss (λ vs. f (answered values s x ∷ vs))

module _ {V : Type 0} (values : Values V) where
  -- so many values, each of its sort
  abbrev pub fits : List Sort → List V → Bool
  fits [] [] = true
  fits [] (v ∷ vs) = false
  fits (s ∷ ss) [] = false
  fits (s ∷ ss) (v ∷ vs) = is_some (read values s v) && fits ss vs
