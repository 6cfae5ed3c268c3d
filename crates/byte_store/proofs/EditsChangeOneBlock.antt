-- An edit by code changes one block of a store.
-- For: Store::edit_at, Store::set_word
use Rattle.std.proofs.Common.{◌≡◌, ℕ, ℤ, pos, List, Result, Ok, Err, refl, sym, ap, ◌∙◌}
use Rattle.std.proofs.Math.IntN.{+ℤ_idr}
use Rattle.std.specs.Prelude.{slice_get, slice_set}
use Rattle.ps_base.specs.declared.faults.Op.{Op}
use Rattle.byte_store.specs.declared.pointer.Base.{Base}
use Rattle.byte_store.specs.declared.pointer.Base.TheVariants.{Fixed, Made}
use Rattle.byte_store.specs.declared.pointer.Pointer.{Pointer}
use Rattle.byte_store.specs.declared.pointer.Pointer.TheVariants.{Null, At}
use Rattle.byte_store.specs.Blocks.{Block, Memory, block_of, with_block, find, replaced, next_number}
use Rattle.byte_store.specs.Operations.{and_then, inside, change, plus}
use Rattle.byte_store.specs.Store.{Leaves}
use Rattle.byte_store.specs.Inside.{Replaces}
use Rattle.byte_store.proofs.NumbersAreFound.{next_stays}

and_then_twice : {A B D : Type 0} (x : Result A Op) (f : A → Result B Op) (g : B → Result D Op) → and_then x (λ a. and_then (f a) g) ≡ and_then (and_then x f) g
and_then_twice (Ok a) f g = refl
and_then_twice (Err op) f g = refl

module _ {C : Type 0} where
  -- the parts of a change: a block is found, and is put back
  change_parts : (m : Memory C) (base : Base) (offset : ℤ) (f : Block C → ℤ → Result (Block C) Op) → change m (At base offset) f ≡ and_then (and_then (inside (block_of m base)) (λ b. f b offset)) (λ c. Ok (with_block m base c))
  change_parts m base offset f = and_then_twice (inside (block_of m base)) (λ b. f b offset) (λ c. Ok (with_block m base c))

  pub fixed_leaves : (r : Result (Unit {0}) Op) (m : Memory C) (new : List (ℕ × Block C)) (n : ℕ) (offset : ℤ) (f : Block C → ℤ → Result (Block C) Op) →
      Replaces r (and_then (inside (find n m.fixed)) (λ b. f b offset)) (λ b. new ≡ replaced n b m.fixed) (new ≡ m.fixed) →
      Leaves r m (record m { fixed = new }) (change m (At (Fixed n) offset) f)
  fixed_leaves (Ok done) m new n offset f h =
      change_parts m (Fixed n) offset f ∙ ap (λ x. and_then x (λ c. Ok (with_block m (Fixed n) c))) h.1 ∙ ap (λ (es : List (ℕ × Block C)). Ok (record m { fixed = es })) (sym h.2)
  fixed_leaves (Err op) m new n offset f h =
      (change_parts m (Fixed n) offset f ∙ ap (λ x. and_then x (λ c. Ok (with_block m (Fixed n) c))) h.0, ap (λ (es : List (ℕ × Block C)). record m { fixed = es }) h.1)

  pub made_leaves : (r : Result (Unit {0}) Op) (m : Memory C) (new : List (Block C)) (n : ℕ) (offset : ℤ) (f : Block C → ℤ → Result (Block C) Op) →
      Replaces r (and_then (inside (slice_get m.made n)) (λ b. f b offset)) (λ b. new ≡ slice_set m.made n b) (new ≡ m.made) →
      Leaves r m (record m { made = new }) (change m (At (Made n) offset) f)
  made_leaves (Ok done) m new n offset f h =
      change_parts m (Made n) offset f ∙ ap (λ x. and_then x (λ c. Ok (with_block m (Made n) c))) h.1 ∙ ap (λ (bs : List (Block C)). Ok (record m { made = bs })) (sym h.2)
  made_leaves (Err op) m new n offset f h =
      (change_parts m (Made n) offset f ∙ ap (λ x. and_then x (λ c. Ok (with_block m (Made n) c))) h.0, ap (λ (bs : List (Block C)). record m { made = bs }) h.1)

  -- no number of a fixed block changes
  pub edited_next : (r : Result (Unit {0}) Op) (answer : Result (Block C) Op) (old new : List (ℕ × Block C)) (n : ℕ) →
      Replaces r answer (λ b. new ≡ replaced n b old) (new ≡ old) → next_number old ≡ next_number new
  edited_next (Ok done) answer old new n h = sym (ap next_number h.2 ∙ next_stays n h.0 old)
  edited_next (Err op) answer old new n h = sym (ap next_number h.1)

-- no further on is the pointer itself
pub plus_zero : (p : Pointer) → plus p (pos 0) ≡ p
plus_zero Null = refl
plus_zero (At base offset) = ap (At base) (+ℤ_idr offset)
