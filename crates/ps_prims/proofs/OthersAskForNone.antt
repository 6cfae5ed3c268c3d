-- A maker asks for its fields, and a primitive that makes no block for no cells.
-- For: asked_for_record, asked
use Rattle.std.proofs.Common.{◌≡◌, ℕ, pos, List, [], ◌∷◌, length, true, false, Option, Some, None, refl, ap}
use Rattle.ps_base.specs.declared.language.PrimName.{PrimName}
use Rattle.ps_base.specs.declared.language.PrimName.TheVariants as prims
use Rattle.byte_store.specs.declared.pointer.Value.{Value}
use Rattle.byte_store.specs.Blocks.{Memory}
use Rattle.ps_types.specs.declared.types.RecordKind.{RecordKind}
use Rattle.ps_prims.specs.Sorts.{Sort, Meant, applied, and_takes, collecting, first_order, fits, read}
use Rattle.ps_prims.specs.Records.{fields}
use Rattle.ps_prims.specs.Rows.{row}
use Rattle.ps_prims.specs.Cells.{asked, asks, counted, for_cells}
use Rattle.ps_prims.proofs.OtherNumbersFitNoRow.{applied_none}
use Rattle.ps_prims.proofs.ValuesAreCollected.{collected}

module _ (kinds : List RecordKind) (k : ℕ) (vs : List Value) (m : Memory Value) where
  abbrev sorts : List Sort
  sorts = (row first_order kinds (prims.Maker k)).operands

  pub asks_fields : fits first_order sorts vs ≡ true → asked first_order kinds (prims.Maker k) vs m ≡ for_cells (pos (length (fields kinds k)))
  asks_fields fit = ap (λ o. counted o m) (collected sorts (λ vs m. for_cells (pos (length (fields kinds k)))) vs fit)

  pub asks_wrong : fits first_order sorts vs ≡ false → asked first_order kinds (prims.Maker k) vs m ≡ 0
  asks_wrong other = ap (λ o. counted o m) (applied_none first_order sorts (asks first_order kinds (prims.Maker k)) vs other)

-- what takes operands of any sorts and asks for none
none_of : (ss : List Sort) (vs : List Value) (m : Memory Value) → 0 ≡ counted (applied first_order ss (collecting first_order ss (λ vs (m : Memory Value). 0)) vs) m
none_of [] [] m = refl
none_of [] (v ∷ vs) m = refl
none_of (s ∷ ss) [] m = refl
none_of (s ∷ ss) (v ∷ vs) m = go (read first_order s v) (none_of ss vs m)
  where
    go : (o : Option (Meant Value s)) → 0 ≡ counted (applied first_order ss (collecting first_order ss (λ vs (m : Memory Value). 0)) vs) m →
        0 ≡ counted (and_takes first_order o (λ x. applied first_order ss (collecting first_order ss (λ vs (m : Memory Value). 0)) vs)) m
    go None ih = refl
    go (Some x) ih = ih

pub others_ask_none : (kinds : List RecordKind) (vs : List Value) (m : Memory Value) (p : PrimName) → (p ≡ prims.MakeVector → ⊥) → (p ≡ prims.AllocateMemory → ⊥) → (p ≡ prims.StringAppend → ⊥) → ((k : ℕ) → p ≡ prims.Maker k → ⊥) →
    0 ≡ asked first_order kinds p vs m
others_ask_none kinds vs m prims.MakeVector a b c d = absurd (a refl)
others_ask_none kinds vs m prims.AllocateMemory a b c d = absurd (b refl)
others_ask_none kinds vs m prims.StringAppend a b c d = absurd (c refl)
others_ask_none kinds vs m (prims.Maker k) a b c d = absurd (d k refl)
others_ask_none kinds vs m p a b c d = none_of (row first_order kinds p).operands vs m
