-- How high the newest entry of an identifier stands, by the chain of its bucket.
-- For: Table::height_below, Table::find_below.
use Rattle.std.proofs.Common.{◌≡◌, ◌∙◌, ℕ, zero, suc, ◌-◌, ◌<◌, ◌≤◌, refl, ap, sym, subst, arith, Bool, true, false, ◌==◌, min, List, [], ◌∷◌, length, Some, None, ◌⊎◌, inl, inr}
use Rattle.std.specs.Prelude.{if◌then◌else◌}
use Rattle.std.proofs.lemmas.Bool.Decides.{nat_tests}
use Rattle.ps_scope.specs.Environments.{Entry, is_of, defined}
use Rattle.ps_scope.specs.InsideTables.{oldest, bucket_of, newest, height}
use Rattle.ps_scope.proofs.Oldest.{all_oldest, none_oldest, older, length_oldest, oldest_oldest, next_oldest, oldest_min}
use Rattle.ps_scope.proofs.Buckets.{newest_le, newest_up, height_le, other_bucket}

module _ (es : List Entry) (owner : ℕ) (w : List ℕ) (below : ℕ) where
  -- what the first n entries say, of those below a bound
  abbrev pub low : ℕ → ℕ
  low n = height (oldest (min n below) es) owner w

  passed : (i : ℕ) (e : Entry) → oldest (suc i) es ≡ e ∷ oldest i es → (suc i ≤ below → is_of owner w e ≡ false) → low (suc i) ≡ low i
  passed i e top other = by (cases i below) where
    cases : (i below : ℕ) → (suc i ≤ below) ⊎ (below ≤ i)
    cases i below = grind arith

    by : (suc i ≤ below) ⊎ (below ≤ i) → low (suc i) ≡ low i
    by (inl le) =
        let a : min (suc i) below ≡ suc i = omega arith in
        let b : min i below ≡ i = omega arith in
        ap (λ k. height (oldest k es) owner w) a
        ∙ ap (λ xs. height xs owner w) top
        ∙ ap (λ t. if t then suc (length (oldest i es)) else height (oldest i es) owner w) (other le)
        ∙ sym (ap (λ k. height (oldest k es) owner w) b)
    by (inr le) =
        let a : min (suc i) below ≡ min i below = omega arith in
        ap (λ k. height (oldest k es) owner w) a

  -- entries of other buckets say nothing
  skip : (n : ℕ) → n ≤ length es → low n ≡ low (newest (oldest n es) (bucket_of owner w))
  skip zero le = ap (λ xs. low (newest xs (bucket_of owner w))) (sym (none_oldest es))
  skip (suc i) le =
      let p = next_oldest es i (omega arith) in
      by p.0 p.1 (bucket_of p.0.owner p.0.word == bucket_of owner w) refl (skip i (omega arith))
      ∙ ap (λ xs. low (newest xs (bucket_of owner w))) (sym p.1) where
        by : (e : Entry) → oldest (suc i) es ≡ e ∷ oldest i es → (t : Bool) → (bucket_of e.owner e.word == bucket_of owner w) ≡ t → low i ≡ low (newest (oldest i es) (bucket_of owner w)) → low (suc i) ≡ low (if t then suc (length (oldest i es)) else newest (oldest i es) (bucket_of owner w))
        by e top true q h = ap (λ k. low (suc k)) (sym (length_oldest es i (omega arith)))
        by e top false q h = passed i e top (λ le. other_bucket owner w e (is_of owner w e) refl q) ∙ h

  -- how far a walk along the chain has come: it stands at the newest of the entries up to it in the bucket
  pub record Walks (at : ℕ) : Type 0 where
    pub within : at ≤ length es
    pub is : at ≡ newest (oldest at es) (bucket_of owner w)
    pub same : height (oldest below es) owner w ≡ low at

  pub begun : (at : ℕ) → at ≡ newest es (bucket_of owner w) → Walks at
  begun at e =
      let b = bucket_of owner w in
      record {
        within = subst (λ k. k ≤ length es) (sym e) (newest_le es b);
        is = e ∙ newest_up es b ∙ ap (λ k. newest (oldest k es) b) (sym e);
        same = ap (λ xs. height xs owner w) (sym (oldest_min es below)) ∙ skip (length es) (omega arith) ∙ ap (λ xs. low (newest xs b)) (all_oldest es (length es) (omega arith)) ∙ ap low (sym e);
      }

  pub reached : (i : ℕ) (e : Entry) → Walks (suc i) → suc i ≤ below → oldest (suc i) es ≡ e ∷ oldest i es → is_of owner w e ≡ true → height (oldest below es) owner w ≡ suc i
  reached i e h le top t =
      let a : min (suc i) below ≡ suc i = omega arith in
      let within = h.within in
      h.same ∙ ap (λ k. height (oldest k es) owner w) a ∙ ap (λ xs. height xs owner w) top
      ∙ ap (λ t. if t then suc (length (oldest i es)) else height (oldest i es) owner w) t
      ∙ ap suc (length_oldest es i (omega arith))

  -- where a walk stands there is an entry of the bucket
  hit : (i : ℕ) (e : Entry) → Walks (suc i) → oldest (suc i) es ≡ e ∷ oldest i es → bucket_of e.owner e.word ≡ bucket_of owner w
  hit i e h top = by (bucket_of e.owner e.word == bucket_of owner w) refl (h.is ∙ ap (λ xs. newest xs (bucket_of owner w)) top) where
    by : (t : Bool) → (bucket_of e.owner e.word == bucket_of owner w) ≡ t → suc i ≡ (if t then suc (length (oldest i es)) else newest (oldest i es) (bucket_of owner w)) → bucket_of e.owner e.word ≡ bucket_of owner w
    by true q k = grind (arith, nat_tests)
    by false q k =
        let within = h.within in
        absurd (omega (arith, newest_le (oldest i es) (bucket_of owner w), length_oldest es i (omega arith)))

  pub onward : (i next : ℕ) (e : Entry) → Walks (suc i) → oldest (suc i) es ≡ e ∷ oldest i es → (suc i ≤ below → is_of owner w e ≡ false) → next ≡ newest (oldest i es) (bucket_of e.owner e.word) → Walks next
  onward i next e h top other n =
      let b = bucket_of owner w in
      let within = h.within in
      let m : next ≡ newest (oldest i es) b = n ∙ ap (newest (oldest i es)) (hit i e h top) in
      let le : next ≤ i = omega (arith, m, newest_le (oldest i es) b, length_oldest es i (omega arith)) in
      record {
        within = omega arith;
        is = m ∙ newest_up (oldest i es) b ∙ ap (λ k. newest (oldest k (oldest i es)) b) (sym m) ∙ ap (λ xs. newest xs b) (oldest_oldest es i next le (omega arith));
        same = h.same ∙ passed i e top other ∙ skip i (omega arith) ∙ ap low (sym m);
      }

  pub reached_at : (at : ℕ) (e : Entry) → Walks at → 0 < at → at ≤ below → oldest (suc (at - 1)) es ≡ e ∷ oldest (at - 1) es → is_of owner w e ≡ true → height (oldest below es) owner w ≡ at
  reached_at at e h lt le top t =
      let a : at ≡ suc (at - 1) = omega arith in
      reached (at - 1) e (subst (λ k. Walks k) a h) (omega arith) top t ∙ sym a

  pub onward_at : (at next : ℕ) (e : Entry) → Walks at → 0 < at → oldest (suc (at - 1)) es ≡ e ∷ oldest (at - 1) es → (at ≤ below → is_of owner w e ≡ false) → next ≡ newest (oldest (at - 1) es) (bucket_of e.owner e.word) → Walks next
  onward_at at next e h lt top other n =
      let a : at ≡ suc (at - 1) = omega arith in
      onward (at - 1) next e (subst (λ k. Walks k) a h) top (λ le. other (omega arith)) n

  pub ended : (at : ℕ) → Walks at → at ≡ 0 → height (oldest below es) owner w ≡ 0
  ended at h z =
      let a : min 0 below ≡ 0 = omega arith in
      h.same ∙ ap low z ∙ ap (λ k. height (oldest k es) owner w) a ∙ ap (λ xs. height xs owner w) (none_oldest es)

-- what stands at the height of an identifier is what it stands for
pub none_found : (es : List Entry) (owner : ℕ) (w : List ℕ) → height es owner w ≡ 0 → defined es owner w ≡ None
none_found [] owner w z = refl
none_found (e ∷ es) owner w z = by (is_of owner w e) z (none_found es owner w) where
  by : (t : Bool) → (if t then suc (length es) else height es owner w) ≡ 0 → (height es owner w ≡ 0 → defined es owner w ≡ None) → (if t then Some e.binding else defined es owner w) ≡ None
  by true z k = absurd (omega arith)
  by false z k = k z

pub found_there : (es : List Entry) (owner : ℕ) (w : List ℕ) (i : ℕ) (x : Entry) → height es owner w ≡ suc i → oldest (suc i) es ≡ x ∷ oldest i es → defined es owner w ≡ Some x.binding
found_there [] owner w i x h top = absurd (omega arith)
found_there (e ∷ es) owner w i x h top = by (is_of owner w e) h (found_there es owner w i x) where
  first : {A : Type 0} (a b : A) (as' bs : List A) → a ∷ as' ≡ b ∷ bs → a ≡ b
  first a b as' bs e = (cc)

  by : (t : Bool) → (if t then suc (length es) else height es owner w) ≡ suc i → (height es owner w ≡ suc i → oldest (suc i) es ≡ x ∷ oldest i es → defined es owner w ≡ Some x.binding) → (if t then Some e.binding else defined es owner w) ≡ Some x.binding
  by true k f = ap (λ (e : Entry). Some e.binding) (first e x es (oldest i (e ∷ es)) (sym (all_oldest (e ∷ es) (suc i) (omega arith)) ∙ top))
  by false k f =
      let le = height_le es owner w in
      f k (sym (older e es (suc i) (omega arith)) ∙ top ∙ ap (λ xs. x ∷ xs) (older e es i (omega arith)))

-- the same of the lowest entries, as many as a bound says
pub found_below : (es : List Entry) (below owner : ℕ) (w : List ℕ) (i : ℕ) (x : Entry) → height (oldest below es) owner w ≡ suc i → oldest (suc i) es ≡ x ∷ oldest i es → defined (oldest below es) owner w ≡ Some x.binding
found_below es below owner w i x h top = by (cases below (length es)) where
  cases : (n m : ℕ) → (n ≤ m) ⊎ (m < n)
  cases n m = grind arith

  by : (below ≤ length es) ⊎ (length es < below) → defined (oldest below es) owner w ≡ Some x.binding
  by (inl le) =
      let k : suc i ≤ below = omega (arith, height_le (oldest below es) owner w, length_oldest es below le) in
      found_there (oldest below es) owner w i x h (oldest_oldest es below (suc i) k le ∙ top ∙ ap (λ xs. x ∷ xs) (sym (oldest_oldest es below i (omega arith) le)))
  by (inr lt) =
      let a = all_oldest es below (omega arith) in
      ap (λ xs. defined xs owner w) a ∙ found_there es owner w i x (ap (λ xs. height xs owner w) (sym a) ∙ h) top
