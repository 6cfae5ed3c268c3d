-- A table that serves what is live, with one row more on top.
-- For: Table::new, Table::push.
use Rattle.std.proofs.Common.{◌≡◌, ◌∙◌, ℕ, suc, ◌<◌, ◌≤◌, ◌≢◌, refl, ap, sym, subst, arith, Bool, true, false, ◌==◌, List, [], ◌∷◌, ◌++◌, length, Some, slice_get, slice_index, set, get_or-set_same, get_or-set_other, length-append, ◌⊎◌, inl, inr, eq-eqb}
use Rattle.std.specs.Prelude.{if◌then◌else◌}
use Rattle.std.proofs.lemmas.Bool.{false≢true}
use Rattle.std.proofs.lemmas.Bool.Decides.{nat_tests}
use Rattle.std.proofs.Math.ListN.{length-set}
use Rattle.ps_scope.specs.Environments.{Entry, word}
use Rattle.ps_scope.specs.InsideTables.{entry, trail_at, trails, oldest, bucket_of, newest, Stands, Serves}
use Rattle.ps_scope.specs.declared.table.Row.{Row}
use Rattle.ps_scope.specs.declared.table.Slot.{Slot}
use Rattle.ps_scope.proofs.Places.{get_front, get_last, get_within, at_end, no_place}
use Rattle.ps_scope.proofs.Trails.{old_trail, new_trail, laid_none, laid_more}
use Rattle.ps_scope.proofs.Oldest.{all_oldest, older}
use Rattle.ps_scope.proofs.Buckets.{bucket_small}

abbrev pub bucket_at : Row → ℕ
bucket_at r = bucket_of r.owner (word r.name r.stamps)

pub serves_none : (heads : List ℕ) → length heads ≡ 65536 → ((k : ℕ) → k < 65536 → slice_index heads k ≡ 0) → Serves [] [] heads 0 []
serves_none heads many z = record {
  laid = laid_none;
  within = omega arith;
  many = many;
  count = refl;
  firsts = λ b lt. z b lt;
  stand = λ i s e. absurd (no_place i s e);
}

module _ (rows : List Row) (live : List Slot) (heads : List ℕ) (n : ℕ) (es : List Entry) (r : Row) (s : Slot) where
  abbrev grown_rows : List Row
  grown_rows = rows ++ r ∷ []

  -- the row is laid on what is live, and its slot leads to the head that it replaces
  pub record Fits_on : Type 0 where
    pub trail : trail_at (trails rows) n ≡ es
    pub parent : r.parent ≡ n
    pub number : s.row ≡ length rows
    pub next : s.next ≡ slice_index heads (bucket_at r)

  on_top : Fits_on → trail_at (trails grown_rows) (suc (length rows)) ≡ entry r ∷ es
  on_top f = new_trail rows r ∙ ap (λ k. entry r ∷ trail_at (trails rows) k) f.parent ∙ ap (λ xs. entry r ∷ xs) f.trail

  first : (h : Serves rows live heads n es) (b : ℕ) → b < 65536 → (t : Bool) → (bucket_at r == b) ≡ t → slice_index (set heads (bucket_at r) (suc (length live))) b ≡ (if t then suc (length es) else newest es b)
  first h b lt true q =
      let e : bucket_at r ≡ b = grind (arith, nat_tests) in
      let k : bucket_at r < length heads = omega (arith, h.many) in
      ap (slice_index (set heads (bucket_at r) (suc (length live)))) (sym e) ∙ get_or-set_same heads (bucket_at r) (suc (length live)) 0 k ∙ ap suc (sym h.count)
  first h b lt false q =
      let ne : b ≢ bucket_at r = λ e. false≢true (sym q ∙ eq-eqb (bucket_at r) b (sym e)) in
      get_or-set_other heads (bucket_at r) b (suc (length live)) 0 ne ∙ h.firsts b lt

  stands : (h : Serves rows live heads n es) → Fits_on → (i : ℕ) (t : Slot) → (slice_get live i ≡ Some t) ⊎ ((i ≡ length live) × (s ≡ t)) → Stands grown_rows (entry r ∷ es) i t
  stands h f i t (inl e) =
      let st = h.stand i t e in
      let lt = get_within live i t e in
      let c = h.count in
      let k = get_within rows t.row st.row st.is in
      record {
        row = st.row;
        is = get_front rows r t.row k ∙ st.is;
        trail = old_trail rows r (suc t.row) (omega arith) ∙ st.trail ∙ sym (older (entry r) es (suc i) (omega arith));
        top = older (entry r) es (suc i) (omega arith) ∙ st.top ∙ ap (λ xs. entry st.row ∷ xs) (sym (older (entry r) es i (omega arith)));
        next = st.next ∙ ap (λ xs. newest xs (bucket_at st.row)) (sym (older (entry r) es i (omega arith)));
      }
  stands h f i t (inr e) = subst (λ t. Stands grown_rows (entry r ∷ es) i t) e.1 (subst (λ i. Stands grown_rows (entry r ∷ es) i s) (sym (e.0 ∙ sym h.count)) (record {
    row = r;
    is = ap (slice_get grown_rows) f.number ∙ get_last rows r;
    trail = ap (λ k. trail_at (trails grown_rows) (suc k)) f.number ∙ on_top f ∙ sym all;
    top = all ∙ ap (λ xs. entry r ∷ xs) (sym below);
    next = f.next ∙ h.firsts (bucket_at r) (bucket_small r.owner (word r.name r.stamps)) ∙ ap (λ xs. newest xs (bucket_at r)) (sym below);
  })) where
    all : oldest (suc (length es)) (entry r ∷ es) ≡ entry r ∷ es
    all = all_oldest (entry r ∷ es) (suc (length es)) (omega arith)

    below : oldest (length es) (entry r ∷ es) ≡ es
    below = older (entry r) es (length es) (omega arith) ∙ all_oldest es (length es) (omega arith)

  serves_more : Serves rows live heads n es → Fits_on → Serves grown_rows (live ++ s ∷ []) (set heads (bucket_at r) (suc (length live))) (suc (length rows)) (entry r ∷ es)
  serves_more h f =
      let w = h.within in
      let c = h.count in
      record {
        laid = laid_more rows r (subst (λ k. k ≤ length rows) (sym f.parent) h.within) h.laid;
        within = omega (arith, length-append rows (r ∷ []));
        many = length-set heads (bucket_at r) (suc (length live)) ∙ h.many;
        count = omega (arith, length-append live (s ∷ []));
        firsts = λ b lt. first h b lt (bucket_at r == b) refl;
        stand = λ i t e. stands h f i t (at_end live s i t e);
      }

-- the same of what the code names
pub pushed_live : (rows rows' : List Row) (n k : ℕ) (es : List Entry) (r : Row) → rows' ≡ rows ++ r ∷ [] → k ≡ length rows' → trail_at (trails rows) n ≡ es → r.parent ≡ n → trail_at (trails rows') k ≡ entry r ∷ es
pushed_live rows rows' n k es r a e t p =
    let z : k ≡ suc (length rows) = e ∙ ap length a ∙ (let y : length (rows ++ r ∷ []) ≡ suc (length rows) = omega (arith, length-append rows (r ∷ [])) in y) in
    ap (λ rs. trail_at (trails rs) k) a ∙ ap (trail_at (trails (rows ++ r ∷ []))) z ∙ new_trail rows r ∙ ap (λ k. entry r ∷ trail_at (trails rows) k) p ∙ ap (λ xs. entry r ∷ xs) t

pub pushed : (rows rows' : List Row) (live live' : List Slot) (heads heads' : List ℕ) (n k b height : ℕ) (es : List Entry) (r : Row) (s : Slot) → rows' ≡ rows ++ r ∷ [] → live' ≡ live ++ s ∷ [] → heads' ≡ set heads b height → b ≡ bucket_at r → height ≡ length live' → k ≡ length rows' → Fits_on rows live heads n es r s → Serves rows live heads n es → Serves rows' live' heads' k (trail_at (trails rows') k)
pushed rows rows' live live' heads heads' n k b height es r s a l hs be he ke f h =
    let z : k ≡ suc (length rows) = ke ∙ ap length a ∙ (let y : length (rows ++ r ∷ []) ≡ suc (length rows) = omega (arith, length-append rows (r ∷ [])) in y) in
    let v : height ≡ suc (length live) = he ∙ ap length l ∙ (let y : length (live ++ s ∷ []) ≡ suc (length live) = omega (arith, length-append live (s ∷ [])) in y) in
    let q : heads' ≡ set heads (bucket_at r) (suc (length live)) = hs ∙ ap (λ b. set heads b height) be ∙ ap (set heads (bucket_at r)) v in
    let t = pushed_live rows rows' n k es r a ke f.trail f.parent in
    subst (λ xs. Serves rows' live' heads' k xs) (sym t)
    (subst (λ k. Serves rows' live' heads' k (entry r ∷ es)) (sym z)
    (subst (λ hs. Serves rows' live' hs (suc (length rows)) (entry r ∷ es)) (sym q)
    (subst (λ ls. Serves rows' ls (set heads (bucket_at r) (suc (length live))) (suc (length rows)) (entry r ∷ es)) (sym l)
    (subst (λ rs. Serves rs (live ++ s ∷ []) (set heads (bucket_at r) (suc (length live))) (suc (length rows)) (entry r ∷ es)) (sym a)
    (serves_more rows live heads n es r s h f)))))
