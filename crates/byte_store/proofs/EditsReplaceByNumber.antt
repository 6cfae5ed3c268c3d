-- An edit of one block replaces the block of that number.
-- For: edit_fixed, edit_made
use Rattle.std.proofs.Common.{◌≡◌, ℕ, List, map, Option, Some, Result, Ok, Err, sym, ap, ◌∙◌}
use Rattle.std.specs.Prelude.{slice_get, slice_set}
use Rattle.std.specs.Map.{lookup, set_value}
use Rattle.std.specs.BTreeMap.{is_at}
use Rattle.std.specs.Ordering.{nat_cmp}
use Rattle.std.proofs.lemmas.List.{map-set, set-get_or}
use Rattle.std.proofs.lemmas.Map.Steps.{set_value_same}
use Rattle.std.proofs.lemmas.Option.{get_or_from_slice_get}
use Rattle.ps_base.specs.declared.faults.Op.{Op}
use Rattle.byte_store.specs.declared.block.Block.{Block as Kept}
use Rattle.byte_store.specs.Blocks.{Block, replaced}
use Rattle.byte_store.specs.Operations.{and_then, inside}
use Rattle.byte_store.specs.Inside.{seen, seen_numbered, BecomesBlock, Replaces}
use Rattle.byte_store.proofs.NumbersAreFound.{replaced_is}

module _ {C : Type 0} where
  -- a block that is found and edited
  pub replaces : (r : Result (Unit {0}) Op) (old new : Block C) (at : Option (Block C)) (f : Block C → Result (Block C) Op) (P : Block C → Type 0) (Q : Type 0) →
      at ≡ Some old → BecomesBlock r old new (f old) → P new → (new ≡ old → Q) → Replaces r (and_then (inside at) f) P Q
  replaces (Ok done) old new at f P Q is h p q = (new, ap (λ b. and_then (inside b) f) is ∙ h, p)
  replaces (Err op) old new at f P Q is h p q = (ap (λ b. and_then (inside b) f) is ∙ h.0, q h.1)

module _ {C A : Type 0} where
  -- a made block that is as it was
  pub made_same : (made : List (Kept C A)) (n : ℕ) (old new : Kept C A) → slice_get made n ≡ Some old → seen new ≡ seen old → map seen (slice_set made n new) ≡ map seen made
  made_same made n old new is same = map-set seen made n new ∙ ap (λ b. slice_set (map seen made) n b) same ∙ sym (map-set seen made n old) ∙ ap (map seen) (ap (λ b. slice_set made n b) (sym (get_or_from_slice_get made n old old is)) ∙ set-get_or made n old)

  -- a fixed one
  pub fixed_same : (es : List (ℕ × Kept C A)) (n : ℕ) (old new : Kept C A) → lookup (is_at (nat_cmp n)) es ≡ Some old → seen new ≡ seen old → map seen_numbered (set_value (is_at (nat_cmp n)) es new) ≡ map seen_numbered es
  fixed_same es n old new is same = replaced_is seen n new es ∙ ap (λ b. replaced n b (map seen_numbered es)) same ∙ sym (replaced_is seen n old es) ∙ ap (map seen_numbered) (set_value_same (is_at (nat_cmp n)) es old is)
