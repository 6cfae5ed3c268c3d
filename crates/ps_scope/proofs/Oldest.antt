-- The oldest entries of a list, the newest first.
-- For: the lemmas on buckets, chains, pushing and popping.
use Rattle.std.proofs.Common.{◌≡◌, ◌∙◌, ℕ, suc, ◌-◌, ◌<◌, ◌≤◌, ap, sym, arith, List, [], ◌∷◌, length, drop, min, ◌⊎◌, inl, inr, length-drop}
use Rattle.std.proofs.lemmas.List.{drop_all}
use Rattle.ps_scope.specs.Environments.{Entry}
use Rattle.ps_scope.specs.InsideTables.{oldest}

pub all_oldest : (es : List Entry) (n : ℕ) → length es ≤ n → oldest n es ≡ es
all_oldest es n le = let z : length es - n ≡ 0 = omega arith in ap (λ k. drop k es) z

pub none_oldest : (es : List Entry) → oldest 0 es ≡ []
none_oldest es = drop_all (length es - 0) es (omega arith)

pub older : (e : Entry) (es : List Entry) (n : ℕ) → n ≤ length es → oldest n (e ∷ es) ≡ oldest n es
older e es n le = let z : suc (length es) - n ≡ suc (length es - n) = omega arith in ap (λ k. drop k (e ∷ es)) z

pub length_oldest : (es : List Entry) (n : ℕ) → n ≤ length es → length (oldest n es) ≡ n
length_oldest es n le = omega (arith, length-drop (length es - n) es)

cases : (n m : ℕ) → (n ≤ m) ⊎ (m < n)
cases n m = grind arith

pub oldest_oldest : (es : List Entry) (m n : ℕ) → n ≤ m → m ≤ length es → oldest n (oldest m es) ≡ oldest n es
oldest_oldest [] m n le within = ap (oldest n) (all_oldest [] m (omega arith))
oldest_oldest (e ∷ es) m n le within = by (cases m (length es)) (oldest_oldest es m n le) where
  by : (m ≤ length es) ⊎ (length es < m) → (m ≤ length es → oldest n (oldest m es) ≡ oldest n es) → oldest n (oldest m (e ∷ es)) ≡ oldest n (e ∷ es)
  by (inl h) k = ap (oldest n) (older e es m h) ∙ k h ∙ sym (older e es n (omega arith))
  by (inr h) k = ap (oldest n) (all_oldest (e ∷ es) m (omega arith))

pub next_oldest : (es : List Entry) (i : ℕ) → i < length es → (e : Entry) × (oldest (suc i) es ≡ e ∷ oldest i es)
next_oldest [] i lt = absurd (omega arith)
next_oldest (e ∷ es) i lt = by (cases (suc i) (length es)) (next_oldest es i) where
  by : (suc i ≤ length es) ⊎ (length es < suc i) → (i < length es → (x : Entry) × (oldest (suc i) es ≡ x ∷ oldest i es)) → (x : Entry) × (oldest (suc i) (e ∷ es) ≡ x ∷ oldest i (e ∷ es))
  by (inl h) k = let p = k (omega arith) in (p.0, older e es (suc i) h ∙ p.1 ∙ ap (λ xs. p.0 ∷ xs) (sym (older e es i (omega arith))))
  by (inr h) k = (e, all_oldest (e ∷ es) (suc i) (omega arith) ∙ ap (λ xs. e ∷ xs) (sym (older e es i (omega arith) ∙ all_oldest es i (omega arith))))

pub oldest_drop : (es : List Entry) (n : ℕ) → n < length es → oldest n (drop 1 es) ≡ oldest n es
oldest_drop [] n lt = absurd (omega arith)
oldest_drop (e ∷ es) n lt = sym (older e es n (omega arith))

pub oldest_min : (es : List Entry) (n : ℕ) → oldest (min (length es) n) es ≡ oldest n es
oldest_min es n = by (cases n (length es)) where
  by : (n ≤ length es) ⊎ (length es < n) → oldest (min (length es) n) es ≡ oldest n es
  by (inl h) = let z : min (length es) n ≡ n = omega arith in ap (λ k. oldest k es) z
  by (inr h) = let z : min (length es) n ≡ length es = omega arith in ap (λ k. oldest k es) z ∙ all_oldest es (length es) (omega arith) ∙ sym (all_oldest es n (omega arith))

pub oldest_le : (es : List Entry) (n : ℕ) → length (oldest n es) ≤ length es
oldest_le es n = omega (arith, length-drop (length es - n) es)
