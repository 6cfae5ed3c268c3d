-- What looks at the memory answers what its row says.
-- For: the functions of looks.rt and glances.rt
use Rattle.std.proofs.Common.{◌≡◌, ℤ, pos, List, [], ◌∷◌, refl}
use Rattle.ps_base.specs.declared.language.PrimName.TheVariants as prims
use Rattle.byte_store.specs.declared.event.Event.{Event}
use Rattle.byte_store.specs.declared.event.Event.TheVariants as events
use Rattle.byte_store.specs.declared.pointer.Value.{Value}
use Rattle.byte_store.specs.declared.pointer.Value.TheVariants as value
use Rattle.byte_store.specs.declared.pointer.Pointer.{Pointer}
use Rattle.byte_store.specs.Blocks.{Memory}
use Rattle.byte_store.specs.Operations as store
use Rattle.byte_store.specs.Operations.{and_then, plus}
use Rattle.byte_store.specs.Words.{word_of}
use Rattle.ps_prims.specs.declared.outcome.PrimOut.{PrimOut}
use Rattle.ps_prims.specs.declared.stages.Stage.{Stage}
use Rattle.ps_prims.specs.Sorts.{first_order}
use Rattle.ps_prims.specs.Rows.{row, char_of, perform_row}
use Rattle.ps_prims.specs.InsidePerforming.{Looks, LooksQuietly}
use Rattle.ps_prims.specs.Inside.{Found, FoundQuietly}
use Rattle.ps_prims.proofs.LooksChangeNothing.{looks_of, looks_quietly}

module _ (vs : List Value) (m : Memory Value) (stage : Stage) (old new : List Event) (o : PrimOut) where
  pub string_length_looks : (p : Pointer) → vs ≡ value.Text p ∷ [] →
      Found o (store.text_length m p) (λ n. value.Integer n) (λ n. events.Length p n ∷ []) stage old new → Looks o stage m old new (perform_row first_order (row first_order [] prims.StringLength) vs)
  string_length_looks p is found = looks_of (row first_order [] prims.StringLength) vs m stage old new (value.Text p ∷ []) (λ m. store.text_length m p) (λ n. events.Length p n ∷ []) o is refl found

  pub string_ref_looks : (p : Pointer) (k : ℤ) → vs ≡ value.Text p ∷ value.Integer k ∷ [] →
      Found o (and_then (store.text_at m p k) char_of) (λ c. value.Char c) (λ c. events.Load (plus p k) (pos c) ∷ []) stage old new → Looks o stage m old new (perform_row first_order (row first_order [] prims.StringRef) vs)
  string_ref_looks p k is found = looks_of (row first_order [] prims.StringRef) vs m stage old new (value.Text p ∷ value.Integer k ∷ []) (λ m. and_then (store.text_at m p k) char_of) (λ c. events.Load (plus p k) (pos c) ∷ []) o is refl found

  pub vector_ref_looks : (p : Pointer) (k : ℤ) → vs ≡ value.Vector p ∷ value.Integer k ∷ [] →
      Found o (store.get m p k) (λ x. x) (λ x. events.Get (plus p k) (word_of x) ∷ []) stage old new → Looks o stage m old new (perform_row first_order (row first_order [] prims.VectorRef) vs)
  vector_ref_looks p k is found = looks_of (row first_order [] prims.VectorRef) vs m stage old new (value.Vector p ∷ value.Integer k ∷ []) (λ m. store.get m p k) (λ x. events.Get (plus p k) (word_of x) ∷ []) o is refl found

  pub byte_ref_looks : (p : Pointer) → vs ≡ value.Address p ∷ [] →
      Found o (store.load m p) (λ n. value.Integer n) (λ n. events.Load p n ∷ []) stage old new → Looks o stage m old new (perform_row first_order (row first_order [] prims.UnsignedByteRef) vs)
  byte_ref_looks p is found = looks_of (row first_order [] prims.UnsignedByteRef) vs m stage old new (value.Address p ∷ []) (λ m. store.load m p) (λ n. events.Load p n ∷ []) o is refl found

  pub word_ref_looks : (p : Pointer) → vs ≡ value.Address p ∷ [] →
      Found o (store.load_word m p) (λ n. value.Integer n) (λ n. events.LoadWord p n ∷ []) stage old new → Looks o stage m old new (perform_row first_order (row first_order [] prims.WordRef) vs)
  word_ref_looks p is found = looks_of (row first_order [] prims.WordRef) vs m stage old new (value.Address p ∷ []) (λ m. store.load_word m p) (λ n. events.LoadWord p n ∷ []) o is refl found

module _ (vs : List Value) (m : Memory Value) (o : PrimOut) where
  pub is_null_vector_looks : (p : Pointer) → vs ≡ value.Vector p ∷ [] → FoundQuietly o (store.is_null m p) (λ b. value.Boolean b) → LooksQuietly o m (perform_row first_order (row first_order [] prims.IsNullVector) vs)
  is_null_vector_looks p is found = looks_quietly (row first_order [] prims.IsNullVector) vs m (value.Vector p ∷ []) (λ m. store.is_null m p) o is refl found

  pub is_null_address_looks : (p : Pointer) → vs ≡ value.Address p ∷ [] → FoundQuietly o (store.is_null m p) (λ b. value.Boolean b) → LooksQuietly o m (perform_row first_order (row first_order [] prims.IsNullAddress) vs)
  is_null_address_looks p is found = looks_quietly (row first_order [] prims.IsNullAddress) vs m (value.Address p ∷ []) (λ m. store.is_null m p) o is refl found

  pub address_add_looks : (p : Pointer) (k : ℤ) → vs ≡ value.Address p ∷ value.Integer k ∷ [] → FoundQuietly o (store.moved m p k) (λ q. value.Address q) → LooksQuietly o m (perform_row first_order (row first_order [] prims.AddressAdd) vs)
  address_add_looks p k is found = looks_quietly (row first_order [] prims.AddressAdd) vs m (value.Address p ∷ value.Integer k ∷ []) (λ m. store.moved m p k) o is refl found

  pub address_difference_looks : (p q : Pointer) → vs ≡ value.Address p ∷ value.Address q ∷ [] → FoundQuietly o (store.difference m p q) (λ n. value.Integer n) → LooksQuietly o m (perform_row first_order (row first_order [] prims.AddressDifference) vs)
  address_difference_looks p q is found = looks_quietly (row first_order [] prims.AddressDifference) vs m (value.Address p ∷ value.Address q ∷ []) (λ m. store.difference m p q) o is refl found

  pub address_equal_looks : (p q : Pointer) → vs ≡ value.Address p ∷ value.Address q ∷ [] → FoundQuietly o (store.same m p q) (λ b. value.Boolean b) → LooksQuietly o m (perform_row first_order (row first_order [] prims.AddressEqual) vs)
  address_equal_looks p q is found = looks_quietly (row first_order [] prims.AddressEqual) vs m (value.Address p ∷ value.Address q ∷ []) (λ m. store.same m p q) o is refl found

  pub address_less_looks : (p q : Pointer) → vs ≡ value.Address p ∷ value.Address q ∷ [] → FoundQuietly o (store.before m p q) (λ b. value.Boolean b) → LooksQuietly o m (perform_row first_order (row first_order [] prims.AddressLess) vs)
  address_less_looks p q is found = looks_quietly (row first_order [] prims.AddressLess) vs m (value.Address p ∷ value.Address q ∷ []) (λ m. store.before m p q) o is refl found

  pub vector_length_looks : (p : Pointer) → vs ≡ value.Vector p ∷ [] → FoundQuietly o (store.cell_count m p) (λ n. value.Integer n) → LooksQuietly o m (perform_row first_order (row first_order [] prims.VectorLength) vs)
  vector_length_looks p is found = looks_quietly (row first_order [] prims.VectorLength) vs m (value.Vector p ∷ []) (λ m. store.cell_count m p) o is refl found
