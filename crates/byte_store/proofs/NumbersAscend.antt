-- Where the numbers of blocks ascend, each block is found by its number.
-- For: Store::fixed_count, and what walks over the fixed blocks
use Rattle.std.proofs.Common.{◌≡◌, ℕ, List, [], ◌∷◌, map, Some, refl, sym, ap, ◌∙◌}
use Rattle.std.specs.Prelude.{slice_get}
use Rattle.std.specs.Cmp.{eq_by_cmp_equiv}
use Rattle.std.specs.List.Sorted.{IsStrictlyIncreasing}
use Rattle.std.specs.Map.{keys_of}
use Rattle.std.specs.Option.{option_map}
use Rattle.std.specs.Ordering.{nat_cmp}
use Rattle.std.proofs.lemmas.Cmp.{nat_cmp_total}
use Rattle.std.proofs.lemmas.Map.Entries.{lookup_from_place}
use Rattle.std.proofs.lemmas.Map.Keys.{IsDistinct-from_sorted, sorted_from_strictly_increasing}
use Rattle.byte_store.specs.Blocks.{find}
use Rattle.byte_store.proofs.NumbersAreFound.{find_is}

-- what stands beside the numbers changes none of them
pub numbers_shown : {A B : Type 0} (f : A → B) (es : List (ℕ × A)) → keys_of (map (λ e. (e.0, f e.1)) es) ≡ keys_of es
numbers_shown f [] = refl
numbers_shown f (e ∷ es) = ap (λ l. e.0 ∷ l) (numbers_shown f es)

pairs_stay : {A : Type 0} (es : List (ℕ × A)) → map (λ e. (e.0, e.1)) es ≡ es
pairs_stay [] = refl
pairs_stay (e ∷ es) = ap (λ l. e ∷ l) (pairs_stay es)

-- what stands at a place is found by its number
pub found_at : {A : Type 0} (es : List (ℕ × A)) (i : ℕ) (e : ℕ × A) → IsStrictlyIncreasing (keys_of es) → slice_get es i ≡ Some e → find e.0 es ≡ Some e.1
found_at es i e ascending is =
    let distinct = IsDistinct-from_sorted nat_cmp (keys_of es) (sorted_from_strictly_increasing (keys_of es) ascending) in
    let here = lookup_from_place (eq_by_cmp_equiv nat_cmp_total) es i e.0 e.1 distinct is in
    ap (λ l. find e.0 l) (sym (pairs_stay es)) ∙ sym (find_is (λ a. a) e.0 es) ∙ ap (option_map (λ a. a)) here
