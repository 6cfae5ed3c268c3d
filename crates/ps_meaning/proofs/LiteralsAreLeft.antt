-- The literals of a kernel are left in the memory before the first form.
-- For: `forms_leave_what_can_be_kept`
use Rattle.std.proofs.Common.{◌≡◌, ℕ, zero, suc, ◌+◌, ◌≤◌, List, [], ◌∷◌, ◌++◌, map, length, Bool, true, false, Some, refl, sym, ap, subst, arith}
use Rattle.std.specs.Prelude.{nat_eq, slice_get, if◌then◌else◌}
use Rattle.std.specs.List.{AllByRecursion}
use Rattle.ps_base.proofs.Choices.{none_some}
use Rattle.byte_store.specs.declared.pointer.Value.{Value}
use Rattle.byte_store.specs.declared.pointer.Value.TheVariants as value
use Rattle.byte_store.specs.Blocks.{Memory, Block, find}
use Rattle.ps_datum.specs.declared.datum.Datum.{Datum}
use Rattle.ps_datum.specs.declared.datum.DatumKind.{DatumKind, fold-DatumKind}
use Rattle.ps_datum.specs.declared.datum.DatumKind.TheOpen.{DatumKind-F}
use Rattle.ps_datum.proofs.Trees.{induction, fold-datum, fold-boolean, fold-integer, fold-char, fold-text, fold-symbol, fold-list, fold-dotted, fold-vector}
use Rattle.ps_types.specs.declared.types.RecordKind.{RecordKind}
use Rattle.ps_kernel.specs.declared.kernel.Kernel.{Kernel}
use Rattle.ps_prims.proofs.FieldsAreFilled.{nat_eq_self, nat_eq_same}
use Rattle.ps_meaning.specs.Literals.{Laid, LaidParts, start_of, lay_parts, lay_node, laid, lay_all, numbered}
use Rattle.ps_meaning.specs.Eval.{literal}
use Rattle.ps_meaning.specs.Source.{first_memory}
use Rattle.ps_meaning.specs.Left.{IsLeftValue, IsLeftOption, AreLeftCells, IsLeftBlock, AreLeftBlocks}
use Rattle.ps_meaning.proofs.LeftAsMemoryGrows.{AreLeftValues, IsGood}

-- ---- blocks at their numbers

-- blocks stand from a number on
abbrev Stand : List (ℕ × Block Value) → ℕ → List (Block Value) → Type 0
Stand es n [] = Unit {0}
Stand es n (b ∷ bs) = (find n es ≡ Some b) × Stand es (suc n) bs

front_stands : (es : List (ℕ × Block Value)) (n : ℕ) (bs cs : List (Block Value)) → Stand es n (bs ++ cs) → Stand es n bs
front_stands es n [] cs h = tt
front_stands es n (b ∷ bs) cs h = (h.0, front_stands es (suc n) bs cs h.1)

back_stands : (es : List (ℕ × Block Value)) (n : ℕ) (bs cs : List (Block Value)) → Stand es n (bs ++ cs) → Stand es (n + length bs) cs
back_stands es n [] cs h = let same : n ≡ n + 0 = omega arith in subst (λ k. Stand es k cs) same h
back_stands es n (b ∷ bs) cs h = let same : suc n + length bs ≡ n + suc (length bs) = omega arith in subst (λ k. Stand es k cs) same (back_stands es (suc n) bs cs h.1)

-- no number before the first is found
numbers_after : {A : Type 0} (n k : ℕ) (a : A) (xs : List A) → find k (numbered n xs) ≡ Some a → n ≤ k
numbers_after n k a [] is = none_some is
numbers_after {A} n k a (x ∷ xs) is = go (nat_eq k n) refl (numbers_after (suc n) k a xs) is
  where
    go : (b : Bool) → nat_eq k n ≡ b → (find k (numbered (suc n) xs) ≡ Some a → suc n ≤ k) → (if b then Some x else find k (numbered (suc n) xs)) ≡ Some a → n ≤ k
    go true at ih h = omega (arith, nat_eq_same k n at)
    go false at ih h = omega (arith, ih h)

stand_within : (n : ℕ) (bs : List (Block Value)) (es : List (ℕ × Block Value)) → ((k : ℕ) (b : Block Value) → find k (numbered n bs) ≡ Some b → find k es ≡ Some b) → Stand es n bs
stand_within n [] es h = tt
stand_within n (b ∷ bs) es h = (h n b (ap (λ (t : Bool). if t then Some b else find n (numbered (suc n) bs)) (nat_eq_self n)), stand_within (suc n) bs es (λ k c is. h k c (go k c is (nat_eq k n) refl)))
  where
    go : (k : ℕ) (c : Block Value) → find k (numbered (suc n) bs) ≡ Some c → (t : Bool) → nat_eq k n ≡ t → (if t then Some b else find k (numbered (suc n) bs)) ≡ Some c
    go k c is true at = absurd (omega (arith, nat_eq_same k n at, numbers_after (suc n) k c bs is))
    go k c is false at = is

stand_numbered : (bs : List (Block Value)) → Stand (numbered 0 bs) 0 bs
stand_numbered bs = stand_within 0 bs (numbered 0 bs) (λ k b is. is)

-- ---- what is laid out

module _ (kinds : List RecordKind) (m : Memory Value) where
  abbrev AreLeft : List (Block Value) → Type 0
  AreLeft [] = Unit {0}
  AreLeft (b ∷ bs) = IsLeftBlock kinds m b × AreLeft bs

  left_both : (bs cs : List (Block Value)) → AreLeft bs → AreLeft cs → AreLeft (bs ++ cs)
  left_both [] cs h left = left
  left_both (b ∷ bs) cs h left = (h.0, left_both bs cs h.1 left)

  some_cells : (vs : List Value) → AreLeftValues kinds m vs → AreLeftCells kinds m (map Some vs)
  some_cells [] h = tt
  some_cells (v ∷ vs) h = (h.0, some_cells vs h.1)

  -- where its blocks stand, what is laid out from a number on is left
  record LaysLeft (x : ℕ → Laid) : Type 0 where
    at : (n : ℕ) → Stand m.fixed n (x n).blocks → IsLeftValue kinds m (x n).value × AreLeft (x n).blocks

  abbrev AllLay : List (ℕ → Laid) → Type 0
  AllLay [] = Unit {0}
  AllLay (x ∷ xs) = LaysLeft x × AllLay xs

  parts_left : (xs : List (ℕ → Laid)) → AllLay xs → (n : ℕ) → Stand m.fixed n (lay_parts xs n).blocks → AreLeftValues kinds m (lay_parts xs n).values × AreLeft (lay_parts xs n).blocks
  parts_left [] h n stand = (tt, tt)
  parts_left (x ∷ xs) h n stand =
      let others : LaidParts = lay_parts xs (n + length (x n).blocks) in
      let one : IsLeftValue kinds m (x n).value × AreLeft (x n).blocks = h.0.at n (front_stands m.fixed n (x n).blocks others.blocks stand) in
      let more : AreLeftValues kinds m others.values × AreLeft others.blocks = parts_left xs h.1 (n + length (x n).blocks) (back_stands m.fixed n (x n).blocks others.blocks stand) in
      ((one.0, more.0), left_both (x n).blocks others.blocks one.1 more.1)

  vector_lays : (xs : List (ℕ → Laid)) → AllLay xs → LaysLeft (lay_node (DatumKind-F.Vector xs))
  vector_lays xs h = record { at = λ n stand. laid_left n stand (parts_left xs h (suc n) stand.1) }
    where
      laid_left : (n : ℕ) → Stand m.fixed n (lay_node (DatumKind-F.Vector xs) n).blocks → AreLeftValues kinds m (lay_parts xs (suc n)).values × AreLeft (lay_parts xs (suc n)).blocks →
          IsLeftValue kinds m (value.Vector (start_of n)) × AreLeft (lay_node (DatumKind-F.Vector xs) n).blocks
      laid_left n stand parts = (record { number = n; is = refl; block = record { cells = map Some (lay_parts xs (suc n)).values; is = stand.0 } }, (some_cells (lay_parts xs (suc n)).values parts.0, parts.1))

  text_lays : (bytes : List ℕ) → LaysLeft (lay_node (DatumKind-F.Text bytes))
  text_lays bytes = record { at = λ n stand. (record { number = n; is = refl; block = record { bytes = bytes; is = stand.0 } }, (record { bytes = bytes; is = refl }, tt)) }

  abbrev of_kind : DatumKind → ℕ → Laid
  of_kind = fold-DatumKind (ℕ → Laid) (ℕ → Laid) lay_node (λ d. d.kind)

  all_lay : (ds : List Datum) → AllByRecursion (λ d. LaysLeft (laid d)) ds → AllLay (map laid ds)
  all_lay [] h = tt
  all_lay (d ∷ ds) h = (h.0, all_lay ds h.1)

  datum_lays : (d : Datum) → LaysLeft (laid d)
  datum_lays = induction (λ x. LaysLeft (of_kind x)) (λ d. LaysLeft (laid d))
      (λ b. subst LaysLeft (sym (fold-boolean lay_node (λ d. d.kind) b)) (record { at = λ n stand. (tt, tt) }))
      (λ i. subst LaysLeft (sym (fold-integer lay_node (λ d. d.kind) i)) (record { at = λ n stand. (tt, tt) }))
      (λ c. subst LaysLeft (sym (fold-char lay_node (λ d. d.kind) c)) (record { at = λ n stand. (tt, tt) }))
      (λ bytes. subst LaysLeft (sym (fold-text lay_node (λ d. d.kind) bytes)) (text_lays bytes))
      (λ name. subst LaysLeft (sym (fold-symbol lay_node (λ d. d.kind) name)) (record { at = λ n stand. (tt, tt) }))
      (λ ds h. subst LaysLeft (sym (fold-list lay_node (λ d. d.kind) ds)) (record { at = λ n stand. (tt, tt) }))
      (λ ds d h i. subst LaysLeft (sym (fold-dotted lay_node (λ d. d.kind) ds d)) (record { at = λ n stand. (tt, tt) }))
      (λ ds h. subst LaysLeft (sym (fold-vector lay_node (λ d. d.kind) ds)) (vector_lays (map laid ds) (all_lay ds h)))
      (λ p x h. subst LaysLeft (sym (fold-datum lay_node (λ d. d.kind) p x)) h)

  all_data : (ds : List Datum) → AllLay (map laid ds)
  all_data [] = tt
  all_data (d ∷ ds) = (datum_lays d, all_data ds)

  numbered_left : (n : ℕ) (bs : List (Block Value)) → AreLeft bs → AreLeftBlocks kinds m (numbered n bs)
  numbered_left n [] h = tt
  numbered_left n (b ∷ bs) h = (h.0, numbered_left (suc n) bs h.1)

  value_at : (q : ℕ) (vs : List Value) → AreLeftValues kinds m vs → IsLeftOption kinds m (slice_get vs q)
  value_at q [] h = tt
  value_at zero (v ∷ vs) h = h.0
  value_at (suc q) (v ∷ vs) h = value_at q vs h.1

module _ (k : Kernel) where
  both : AreLeftValues k.kinds (first_memory k) (lay_all k.literals).values × AreLeft k.kinds (first_memory k) (lay_all k.literals).blocks
  both = parts_left k.kinds (first_memory k) (map laid k.literals) (all_data k.kinds (first_memory k) k.literals) 0 (stand_numbered (lay_all k.literals).blocks)

  pub first_good : IsGood k.kinds (first_memory k)
  first_good = record { none_made = refl; fixed = numbered_left k.kinds (first_memory k) 0 (lay_all k.literals).blocks both.1 }

  pub literal_left : (q : ℕ) → IsLeftOption k.kinds (first_memory k) (literal k q)
  literal_left q = value_at k.kinds (first_memory k) q (lay_all k.literals).values both.0
