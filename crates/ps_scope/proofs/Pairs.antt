-- What the pairs of entries say is what the entries of the owner 0 say.
-- For: Scopes::find, Scopes::is_among, Scopes::find_kept, Scopes::bind, Scopes::leave_one.
use Rattle.std.proofs.Common.{◌≡◌, ◌∙◌, ℕ, zero, suc, ◌-◌, ◌<◌, refl, ap, sym, arith, Bool, true, false, ◌==◌, ◌&&◌, List, [], ◌∷◌, ◌++◌, length, take, drop, map, Some, None, slice_get, nat_lt}
use Rattle.std.specs.Prelude.{if◌then◌else◌, is_some}
use Rattle.std.specs.Str.{bytes_eq}
use Rattle.std.specs.List.{All}
use Rattle.std.proofs.lemmas.Bool.Decides.{nat_tests}
use Rattle.ps_scope.specs.Environments.{Entry, Env, found, is_among, is_of, defined, kept_at}
use Rattle.ps_scope.specs.InsideTables.{trail_at, height}
use Rattle.ps_scope.specs.InsideScopes.{unowned, pairs}
use Rattle.ps_scope.proofs.Trails.{trail_front}
use Rattle.ps_scope.proofs.Buckets.{height_le}

-- a pair has a word exactly where its entry does
same_word : (owner : ℕ) (w : List ℕ) (x : ℕ) (xs : List ℕ) → bytes_eq (x ∷ xs) (unowned owner w) ≡ ((0 == owner) && bytes_eq (x ∷ xs) w)
same_word zero w x xs = refl
same_word (suc owner) w x xs =
    let q : (0 == suc owner) ≡ false = grind (arith, nat_tests) in
    sym (ap (λ t. t && bytes_eq (x ∷ xs) w) q)

pub found_pairs : (es : List Entry) (x : ℕ) (xs : List ℕ) → found (pairs es) (x ∷ xs) ≡ defined es 0 (x ∷ xs)
found_pairs [] x xs = refl
found_pairs (e ∷ es) x xs =
    ap (λ t. if t then Some e.binding else found (pairs es) (x ∷ xs)) (same_word e.owner e.word x xs)
    ∙ ap (λ o. if is_of 0 (x ∷ xs) e then Some e.binding else o) (found_pairs es x xs)

pub among_pairs : (n : ℕ) (es : List Entry) (x : ℕ) (xs : List ℕ) → is_among n (pairs es) (x ∷ xs) ≡ nat_lt (length es - n) (height es 0 (x ∷ xs))
among_pairs zero [] x xs = refl
among_pairs zero (e ∷ es) x xs =
    let h = height_le (e ∷ es) 0 (x ∷ xs) in
    let t : nat_lt (suc (length es) - 0) (height (e ∷ es) 0 (x ∷ xs)) ≡ false = grind (arith, nat_tests) in
    sym t
among_pairs (suc n) [] x xs =
    let t : nat_lt (length {A = Entry} [] - suc n) (height [] 0 (x ∷ xs)) ≡ false = grind (arith, nat_tests) in
    sym t
among_pairs (suc n) (e ∷ es) x xs =
    ap (λ t. is_some (if t then Some e.binding else found (take n (pairs es)) (x ∷ xs))) (same_word e.owner e.word x xs)
    ∙ by (is_of 0 (x ∷ xs) e) (among_pairs n es x xs) where
      by : (t : Bool) → is_among n (pairs es) (x ∷ xs) ≡ nat_lt (length es - n) (height es 0 (x ∷ xs)) → is_some (if t then Some e.binding else found (take n (pairs es)) (x ∷ xs)) ≡ nat_lt (suc (length es) - suc n) (if t then suc (length es) else height es 0 (x ∷ xs))
      by true h =
          let t : nat_lt (suc (length es) - suc n) (suc (length es)) ≡ true = grind (arith, nat_tests) in
          sym t
      by false h =
          let m : suc (length es) - suc n ≡ length es - n = omega arith in
          h ∙ ap (λ k. nat_lt k (height es 0 (x ∷ xs))) (sym m)

pub drop_pairs : (es : List Entry) → pairs (drop 1 es) ≡ drop 1 (pairs es)
drop_pairs [] = refl
drop_pairs (e ∷ es) = refl

pub length_pairs : (es : List Entry) → length (pairs es) ≡ length es
length_pairs [] = refl
length_pairs (e ∷ es) = ap suc (length_pairs es)

-- the environments that were kept, by the trails of their rows
abbrev pub kept_of : List (List Entry) → List ℕ → List Env
kept_of ts numbers = map (λ n. pairs (trail_at ts n)) numbers

pub kept_there : (ts : List (List Entry)) (numbers : List ℕ) (i n : ℕ) → slice_get numbers i ≡ Some n → kept_at (kept_of ts numbers) i ≡ pairs (trail_at ts n)
kept_there ts [] i n e = absurd (none_some e) where
  none_some : None ≡ Some n → ⊥
  none_some e = (cc)
kept_there ts (x ∷ xs) zero n e = let h : x ≡ n = (cc) in ap (λ n. pairs (trail_at ts n)) h
kept_there ts (x ∷ xs) (suc i) n e = kept_there ts xs i n e

pub kept_nowhere : (ts : List (List Entry)) (numbers : List ℕ) (i : ℕ) → slice_get numbers i ≡ None → kept_at (kept_of ts numbers) i ≡ []
kept_nowhere ts [] i e = refl
kept_nowhere ts (x ∷ xs) zero e = absurd (none_some (sym e)) where
  none_some : None ≡ Some x → ⊥
  none_some e = (cc)
kept_nowhere ts (x ∷ xs) (suc i) e = kept_nowhere ts xs i e

-- what was kept stays when trails are added
pub kept_stays : (ts : List (List Entry)) (es : List Entry) (numbers : List ℕ) → All (λ n. n < length ts) numbers → kept_of (ts ++ es ∷ []) numbers ≡ kept_of ts numbers
kept_stays ts es [] h = refl
kept_stays ts es (n ∷ ns) h =
    let lt : n < length ts = h 0 0 (omega arith) in
    ap (λ e. pairs e ∷ kept_of (ts ++ es ∷ []) ns) (trail_front ts es n lt)
    ∙ ap (λ k. pairs (trail_at ts n) ∷ k) (kept_stays ts es ns (λ k d lt. h (suc k) d (omega arith)))
