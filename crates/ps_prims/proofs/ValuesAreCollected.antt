-- What a row sees of values of first order, put together again, is the values.
-- For: is_of, perform_maker, perform_modifier, asked_for_record
use Rattle.std.proofs.Common.{◌≡◌, ℕ, ℤ, List, [], ◌∷◌, Bool, true, false, Option, Some, None, refl, sym, ap, ◌∙◌}
use Rattle.std.specs.Prelude.{◌&&◌, is_some, nat_eq, if◌then◌else◌}
use Rattle.ps_base.proofs.Choices.{none_some, some_same, true_false}
use Rattle.byte_store.specs.declared.pointer.Pointer.{Pointer}
use Rattle.byte_store.specs.declared.pointer.Value.{Value}
use Rattle.byte_store.specs.declared.pointer.Value.TheVariants as value
use Rattle.ps_prims.proofs.FieldsAreFilled.{nat_eq_same}
use Rattle.ps_prims.specs.Sorts.{Sort, Integer, Boolean, Char, Unit', Address, Text, Vector, Record, Any, Meant, as_integer, as_boolean, as_char, as_unit, as_address, as_text, as_vector, as_record, read, answered, applied, and_takes, collecting, fits, first_order}

integer_again : (v : Value) (x : ℤ) → as_integer v ≡ Some x → value.Integer x ≡ v
integer_again (value.Integer i) x is = ap value.Integer (sym (some_same is))
integer_again (value.Boolean b) x is = none_some is
integer_again (value.Char c) x is = none_some is
integer_again value.Unit x is = none_some is
integer_again (value.Address p) x is = none_some is
integer_again (value.Text p) x is = none_some is
integer_again (value.Vector p) x is = none_some is
integer_again (value.Tuple k p) x is = none_some is

boolean_again : (v : Value) (x : Bool) → as_boolean v ≡ Some x → value.Boolean x ≡ v
boolean_again (value.Integer i) x is = none_some is
boolean_again (value.Boolean b) x is = ap value.Boolean (sym (some_same is))
boolean_again (value.Char c) x is = none_some is
boolean_again value.Unit x is = none_some is
boolean_again (value.Address p) x is = none_some is
boolean_again (value.Text p) x is = none_some is
boolean_again (value.Vector p) x is = none_some is
boolean_again (value.Tuple k p) x is = none_some is

char_again : (v : Value) (x : ℕ) → as_char v ≡ Some x → value.Char x ≡ v
char_again (value.Integer i) x is = none_some is
char_again (value.Boolean b) x is = none_some is
char_again (value.Char c) x is = ap value.Char (sym (some_same is))
char_again value.Unit x is = none_some is
char_again (value.Address p) x is = none_some is
char_again (value.Text p) x is = none_some is
char_again (value.Vector p) x is = none_some is
char_again (value.Tuple k p) x is = none_some is

unit_again : (v : Value) (x : Unit {0}) → as_unit v ≡ Some x → value.Unit ≡ v
unit_again (value.Integer i) x is = none_some is
unit_again (value.Boolean b) x is = none_some is
unit_again (value.Char c) x is = none_some is
unit_again value.Unit x is = refl
unit_again (value.Address p) x is = none_some is
unit_again (value.Text p) x is = none_some is
unit_again (value.Vector p) x is = none_some is
unit_again (value.Tuple k p) x is = none_some is

address_again : (v : Value) (x : Pointer) → as_address v ≡ Some x → value.Address x ≡ v
address_again (value.Integer i) x is = none_some is
address_again (value.Boolean b) x is = none_some is
address_again (value.Char c) x is = none_some is
address_again value.Unit x is = none_some is
address_again (value.Address p) x is = ap value.Address (sym (some_same is))
address_again (value.Text p) x is = none_some is
address_again (value.Vector p) x is = none_some is
address_again (value.Tuple k p) x is = none_some is

text_again : (v : Value) (x : Pointer) → as_text v ≡ Some x → value.Text x ≡ v
text_again (value.Integer i) x is = none_some is
text_again (value.Boolean b) x is = none_some is
text_again (value.Char c) x is = none_some is
text_again value.Unit x is = none_some is
text_again (value.Address p) x is = none_some is
text_again (value.Text p) x is = ap value.Text (sym (some_same is))
text_again (value.Vector p) x is = none_some is
text_again (value.Tuple k p) x is = none_some is

vector_again : (v : Value) (x : Pointer) → as_vector v ≡ Some x → value.Vector x ≡ v
vector_again (value.Integer i) x is = none_some is
vector_again (value.Boolean b) x is = none_some is
vector_again (value.Char c) x is = none_some is
vector_again value.Unit x is = none_some is
vector_again (value.Address p) x is = none_some is
vector_again (value.Text p) x is = none_some is
vector_again (value.Vector p) x is = ap value.Vector (sym (some_same is))
vector_again (value.Tuple k p) x is = none_some is

record_again : (k : ℕ) (v : Value) (x : Pointer) → as_record k v ≡ Some x → value.Tuple k x ≡ v
record_again k (value.Integer i) x is = none_some is
record_again k (value.Boolean b) x is = none_some is
record_again k (value.Char c) x is = none_some is
record_again k value.Unit x is = none_some is
record_again k (value.Address p) x is = none_some is
record_again k (value.Text p) x is = none_some is
record_again k (value.Vector p) x is = none_some is
record_again k (value.Tuple j p) x is = go (nat_eq j k) refl is
  where
    go : (b : Bool) → nat_eq j k ≡ b → (if b then Some p else None) ≡ Some x → value.Tuple k x ≡ value.Tuple j p
    go true e h = ap (λ a. value.Tuple a x) (sym (nat_eq_same j k e)) ∙ ap (value.Tuple j) (sym (some_same h))
    go false e h = none_some h

-- what is read of a value is the value
pub read_again : (s : Sort) (v : Value) (x : Meant Value s) → read first_order s v ≡ Some x → answered first_order s x ≡ v
read_again Integer v x is = integer_again v x is
read_again Boolean v x is = boolean_again v x is
read_again Char v x is = char_again v x is
read_again Unit' v x is = unit_again v x is
read_again Address v x is = address_again v x is
read_again Text v x is = text_again v x is
read_again Vector v x is = vector_again v x is
read_again (Record k) v x is = record_again k v x is
read_again Any v x is = sym (some_same is)

-- operands that fit are those that are collected
pub collected : {R : Type 0} (ss : List Sort) (f : List Value → R) (vs : List Value) → fits first_order ss vs ≡ true → applied first_order ss (collecting first_order ss f) vs ≡ Some (f vs)
collected [] f [] fit = refl
collected [] f (v ∷ vs) fit = true_false (sym fit)
collected (s ∷ ss) f [] fit = true_false (sym fit)
collected {R} (s ∷ ss) f (v ∷ vs) fit = go (read first_order s v) refl (λ g. collected ss g vs) fit
  where
    go : (r : Option (Meant Value s)) → read first_order s v ≡ r → ((g : List Value → R) → fits first_order ss vs ≡ true → applied first_order ss (collecting first_order ss g) vs ≡ Some (g vs)) → is_some r && fits first_order ss vs ≡ true →
        and_takes first_order r (λ x. applied first_order ss (collecting first_order ss (λ ws. f (answered first_order s x ∷ ws))) vs) ≡ Some (f (v ∷ vs))
    go None e ih h = true_false (sym h)
    go (Some x) e ih h = ih (λ ws. f (answered first_order s x ∷ ws)) h ∙ ap (λ (y : Value). Some (f (y ∷ vs))) (read_again s v x e)

-- a value of a sort is read
pub reads_some : (s : Sort) (v : Value) → is_some (read first_order s v) ≡ true → (x : Meant Value s) × (read first_order s v ≡ Some x) × (answered first_order s x ≡ v)
reads_some s v some = go (read first_order s v) refl some
  where
    go : (r : Option (Meant Value s)) → read first_order s v ≡ r → is_some r ≡ true → (x : Meant Value s) × (read first_order s v ≡ Some x) × (answered first_order s x ≡ v)
    go None e h = true_false (sym h)
    go (Some x) e h = (x, e, read_again s v x e)

-- whether a value is of a sort that is known
pub is_of_sort : (sort s : Sort) (b : Bool) (o : Option (Meant Value s)) (v : Value) → sort ≡ s → b ≡ is_some o → o ≡ read first_order s v → b ≡ is_some (read first_order sort v)
is_of_sort sort s b o v is told found = told ∙ ap is_some found ∙ ap (λ (t : Sort). is_some (read first_order t v)) (sym is)
