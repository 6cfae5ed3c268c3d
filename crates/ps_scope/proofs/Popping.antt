-- A table that serves what is live, without its newest row.
-- For: Table::pop.
use Rattle.std.proofs.Common.{◌≡◌, ◌∙◌, ℕ, suc, ◌<◌, ◌≢◌, refl, ap, sym, subst, arith, Bool, true, false, ◌==◌, List, [], ◌∷◌, ◌++◌, length, drop, Some, slice_get, slice_index, set, get_or-set_same, get_or-set_other, length-append, length-drop, eq-eqb}
use Rattle.std.specs.Prelude.{if◌then◌else◌}
use Rattle.std.proofs.lemmas.Bool.{false≢true}
use Rattle.std.proofs.lemmas.Bool.Decides.{nat_tests}
use Rattle.std.proofs.Math.ListN.{length-set}
use Rattle.ps_scope.specs.Environments.{Entry}
use Rattle.ps_scope.specs.InsideTables.{entry, trail_at, trails, oldest, newest, first_binding, Stands, Serves}
use Rattle.ps_scope.specs.declared.table.Row.{Row}
use Rattle.ps_scope.specs.declared.table.Slot.{Slot}
use Rattle.ps_scope.proofs.Places.{get_front, get_last, get_within, some_same}
use Rattle.ps_scope.proofs.Oldest.{all_oldest, oldest_drop}
use Rattle.ps_scope.proofs.Pushing.{bucket_at}

module _ (rows : List Row) (live : List Slot) (heads : List ℕ) (n : ℕ) (es : List Entry) (s : Slot) where
  -- the newest slot stands on top
  pub top_slot : Serves rows (live ++ s ∷ []) heads n es → Stands rows es (length live) s
  top_slot h = h.stand (length live) s (get_last live s)

  counted : Serves rows (live ++ s ∷ []) heads n es → length es ≡ suc (length live)
  counted h = h.count ∙ (let y : length (live ++ s ∷ []) ≡ suc (length live) = omega (arith, length-append live (s ∷ [])) in y)

  module _ (r : Row) (is : slice_get rows s.row ≡ Some r) where
    same_row : (h : Serves rows (live ++ s ∷ []) heads n es) → (top_slot h).row ≡ r
    same_row h = some_same (top_slot h).row r (sym (top_slot h).is ∙ is)

    -- what is live is the entry of that row, and what lay below it
    pub split : (h : Serves rows (live ++ s ∷ []) heads n es) → es ≡ entry r ∷ trail_at (trails rows) r.parent
    split h =
        let st = top_slot h in
        sym (all_oldest es (suc (length live)) (omega (arith, counted h))) ∙ sym st.trail ∙ (h.laid.lies s.row r is).trail

    pub left : (h : Serves rows (live ++ s ∷ []) heads n es) → trail_at (trails rows) r.parent ≡ drop 1 es
    left h = sym (ap (drop 1) (split h))

    pub said : (h : Serves rows (live ++ s ∷ []) heads n es) → Some r.binding ≡ first_binding es
    said h = sym (ap first_binding (split h))

    first : (h : Serves rows (live ++ s ∷ []) heads n es) (b : ℕ) → b < 65536 → (t : Bool) → (bucket_at r == b) ≡ t → slice_index (set heads (bucket_at r) s.next) b ≡ newest (drop 1 es) b
    first h b lt true q =
        let e : bucket_at r ≡ b = grind (arith, nat_tests) in
        let k : bucket_at r < length heads = omega (arith, h.many) in
        let st = top_slot h in
        let c = counted h in
        let l : oldest (length live) es ≡ drop 1 es = sym (oldest_drop es (length live) (omega arith)) ∙ all_oldest (drop 1 es) (length live) (omega (arith, length-drop 1 es)) in
        ap (slice_index (set heads (bucket_at r) s.next)) (sym e) ∙ get_or-set_same heads (bucket_at r) s.next 0 k
        ∙ st.next ∙ ap (λ xs. newest xs (bucket_at st.row)) l ∙ ap (λ r. newest (drop 1 es) (bucket_at r)) (same_row h) ∙ ap (newest (drop 1 es)) e
    first h b lt false q =
        let ne : b ≢ bucket_at r = λ e. false≢true (sym q ∙ eq-eqb (bucket_at r) b (sym e)) in
        get_or-set_other heads (bucket_at r) b s.next 0 ne ∙ h.firsts b lt ∙ ap (λ xs. newest xs b) (split h)
        ∙ ap (λ t. if t then suc (length (trail_at (trails rows) r.parent)) else newest (trail_at (trails rows) r.parent) b) q
        ∙ ap (λ xs. newest xs b) (left h)

    stands : (h : Serves rows (live ++ s ∷ []) heads n es) (i : ℕ) (t : Slot) → slice_get live i ≡ Some t → Stands rows (drop 1 es) i t
    stands h i t e =
        let lt = get_within live i t e in
        let st = h.stand i t (get_front live s i lt ∙ e) in
        let c = counted h in
        record {
          row = st.row;
          is = st.is;
          trail = st.trail ∙ sym (oldest_drop es (suc i) (omega arith));
          top = oldest_drop es (suc i) (omega arith) ∙ st.top ∙ ap (λ xs. entry st.row ∷ xs) (sym (oldest_drop es i (omega arith)));
          next = st.next ∙ ap (λ xs. newest xs (bucket_at st.row)) (sym (oldest_drop es i (omega arith)));
        }

    serves_less : Serves rows (live ++ s ∷ []) heads n es → Serves rows live (set heads (bucket_at r) s.next) r.parent (drop 1 es)
    serves_less h =
        let c = counted h in
        let p = (h.laid.lies s.row r is).older in
        let k = get_within rows s.row r is in
        record {
          laid = h.laid;
          within = omega arith;
          many = length-set heads (bucket_at r) s.next ∙ h.many;
          count = omega (arith, length-drop 1 es);
          firsts = λ b lt. first h b lt (bucket_at r == b) refl;
          stand = λ i t e. stands h i t e;
        }

-- the same of what the code names
pub popped : (rows : List Row) (live live' : List Slot) (heads heads' : List ℕ) (n b : ℕ) (es : List Entry) (r : Row) (s : Slot) → live ≡ live' ++ s ∷ [] → heads' ≡ set heads b s.next → b ≡ bucket_at r → slice_get rows s.row ≡ Some r → Serves rows live heads n es → Serves rows live' heads' r.parent (trail_at (trails rows) r.parent)
popped rows live live' heads heads' n b es r s l hs be is h =
    let g = subst (λ ls. Serves rows ls heads n es) l h in
    let q : heads' ≡ set heads (bucket_at r) s.next = hs ∙ ap (λ b. set heads b s.next) be in
    subst (λ xs. Serves rows live' heads' r.parent xs) (sym (left rows live' heads n es s r is g))
    (subst (λ hs. Serves rows live' hs r.parent (drop 1 es)) (sym q) (serves_less rows live' heads n es s r is g))
