-- Trails grow at the end, and those that are there stay.
-- For: Table::push, Table::mark, find_along.
use Rattle.std.proofs.Common.{◌≡◌, ◌∙◌, ℕ, zero, suc, ◌+◌, ◌-◌, ◌<◌, ◌≤◌, refl, ap, sym, subst, arith, List, [], ◌∷◌, ◌++◌, length, Some, None, slice_get, length-append, ◌⊎◌, inl, inr, true, false}
use Rattle.std.specs.Prelude.{if◌then◌else◌}
use Rattle.std.proofs.lemmas.Option.{slice_get_past}
use Rattle.ps_scope.specs.Environments.{Entry, is_of, defined}
use Rattle.ps_scope.specs.InsideTables.{entry, or_none, trail_at, grown, trails, Lies, AreLaid}
use Rattle.ps_scope.specs.declared.table.Row.{Row}
use Rattle.ps_scope.proofs.Places.{get_front, get_last, get_within, at_end, no_place}

pub trail_front : (ts : List (List Entry)) (es : List Entry) (n : ℕ) → n < length ts → trail_at (ts ++ es ∷ []) n ≡ trail_at ts n
trail_front ts es n lt = ap or_none (get_front ts es n lt)

trail_last : (ts : List (List Entry)) (es : List Entry) → trail_at (ts ++ es ∷ []) (length ts) ≡ es
trail_last ts es = ap or_none (get_last ts es)

grown_snoc : (ts : List (List Entry)) (rs : List Row) (r : Row) → grown ts (rs ++ r ∷ []) ≡ grown ts rs ++ (entry r ∷ trail_at (grown ts rs) r.parent) ∷ []
grown_snoc ts [] r = refl
grown_snoc ts (x ∷ rs) r = grown_snoc (ts ++ (entry x ∷ trail_at ts x.parent) ∷ []) rs r

grown_length : (ts : List (List Entry)) (rs : List Row) → length (grown ts rs) ≡ length ts + length rs
grown_length ts [] = omega arith
grown_length ts (r ∷ rs) =
    let t : List Entry = entry r ∷ trail_at ts r.parent in
    omega (arith, grown_length (ts ++ t ∷ []) rs, length-append ts (t ∷ []))

pub trails_snoc : (rs : List Row) (r : Row) → trails (rs ++ r ∷ []) ≡ trails rs ++ (entry r ∷ trail_at (trails rs) r.parent) ∷ []
trails_snoc rs r = grown_snoc ([] ∷ []) rs r

pub trails_length : (rs : List Row) → length (trails rs) ≡ suc (length rs)
trails_length rs = omega (arith, grown_length ([] ∷ []) rs)

pub old_trail : (rs : List Row) (r : Row) (n : ℕ) → n ≤ length rs → trail_at (trails (rs ++ r ∷ [])) n ≡ trail_at (trails rs) n
old_trail rs r n le = ap (λ ts. trail_at ts n) (trails_snoc rs r) ∙ trail_front (trails rs) (entry r ∷ trail_at (trails rs) r.parent) n (omega (arith, trails_length rs))

pub new_trail : (rs : List Row) (r : Row) → trail_at (trails (rs ++ r ∷ [])) (suc (length rs)) ≡ entry r ∷ trail_at (trails rs) r.parent
new_trail rs r =
    ap (λ ts. trail_at ts (suc (length rs))) (trails_snoc rs r)
    ∙ ap (trail_at (trails rs ++ (entry r ∷ trail_at (trails rs) r.parent) ∷ [])) (sym (trails_length rs))
    ∙ trail_last (trails rs) (entry r ∷ trail_at (trails rs) r.parent)

-- where there is no row there is no trail
pub no_trail : (rs : List Row) (n : ℕ) → length rs < n → trail_at (trails rs) n ≡ []
no_trail rs n lt = ap or_none (slice_get_past (trails rs) n (omega (arith, trails_length rs)))

pub laid_none : AreLaid []
laid_none = record { none = refl; lies = λ i r e. absurd (no_place i r e) }

pub laid_more : (rs : List Row) (r : Row) → r.parent ≤ length rs → AreLaid rs → AreLaid (rs ++ r ∷ [])
laid_more rs r le laid = record {
  none = old_trail rs r 0 (omega arith) ∙ laid.none;
  lies = λ i t e. by i t (at_end rs r i t e);
} where
  by : (i : ℕ) (t : Row) → (slice_get rs i ≡ Some t) ⊎ ((i ≡ length rs) × (r ≡ t)) → Lies (rs ++ r ∷ []) i t
  by i t (inl h) =
      let l = laid.lies i t h in
      let lt = get_within rs i t h in
      let p = l.older in
      record { older = l.older; trail = old_trail rs r (suc i) (omega arith) ∙ l.trail ∙ ap (λ es. entry t ∷ es) (sym (old_trail rs r t.parent (omega arith))) }
  by i t (inr h) = subst (λ t. Lies (rs ++ r ∷ []) i t) h.1 (subst (λ i. Lies (rs ++ r ∷ []) i r) (sym h.0) (record {
    older = le;
    trail = new_trail rs r ∙ ap (λ es. entry r ∷ es) (sym (old_trail rs r r.parent le));
  }))

pub get_none : {A : Type 0} (xs : List A) (n : ℕ) → slice_get xs n ≡ None → length xs ≤ n
get_none [] n e = omega arith
get_none (x ∷ xs) zero e = absurd (none_some (sym e)) where
  none_some : None ≡ Some x → ⊥
  none_some e = (cc)
get_none (x ∷ xs) (suc n) e = omega (arith, get_none xs n e)

module _ (rs : List Row) (laid : AreLaid rs) (below : ℕ) (lt : 0 < below) where
  -- a row's trail is its entry and the trail on which it lies
  step : (r : Row) → slice_get rs (below - 1) ≡ Some r → trail_at (trails rs) below ≡ entry r ∷ trail_at (trails rs) r.parent
  step r e = let a : below ≡ suc (below - 1) = omega arith in ap (trail_at (trails rs)) a ∙ (laid.lies (below - 1) r e).trail

  pub parent_below : (r : Row) → slice_get rs (below - 1) ≡ Some r → r.parent < below
  parent_below r e = let p = (laid.lies (below - 1) r e).older in omega arith

  pub row_found : (owner : ℕ) (w : List ℕ) (r : Row) → slice_get rs (below - 1) ≡ Some r → is_of owner w (entry r) ≡ true → defined (trail_at (trails rs) below) owner w ≡ Some r.binding
  row_found owner w r e t =
      ap (λ es. defined es owner w) (step r e) ∙ ap (λ t. if t then Some r.binding else defined (trail_at (trails rs) r.parent) owner w) t

  pub row_passed : (owner : ℕ) (w : List ℕ) (r : Row) → slice_get rs (below - 1) ≡ Some r → is_of owner w (entry r) ≡ false → defined (trail_at (trails rs) below) owner w ≡ defined (trail_at (trails rs) r.parent) owner w
  row_passed owner w r e t =
      ap (λ es. defined es owner w) (step r e) ∙ ap (λ t. if t then Some r.binding else defined (trail_at (trails rs) r.parent) owner w) t

  pub row_missing : (owner : ℕ) (w : List ℕ) → slice_get rs (below - 1) ≡ None → defined (trail_at (trails rs) below) owner w ≡ None
  row_missing owner w e = ap (λ es. defined es owner w) (no_trail rs below (omega (arith, get_none rs (below - 1) e)))
