-- The newest entry in a bucket.
-- For: the lemmas on chains, pushing and popping.
use Rattle.std.proofs.Common.{◌≡◌, ◌∙◌, ℕ, suc, ◌<◌, ◌≤◌, refl, ap, sym, arith, Bool, true, false, ◌==◌, ◌&&◌, List, [], ◌∷◌, length, lit<, eq-eqb}
use Rattle.std.specs.Prelude.{if◌then◌else◌}
use Rattle.std.specs.Str.{bytes_eq}
use Rattle.std.proofs.lemmas.Bool.{false≢true}
use Rattle.std.proofs.lemmas.Bool.Decides.{nat_tests}
use Rattle.std.proofs.lemmas.Slice.Eq.{bytes_eq-Decides}
use Rattle.ps_scope.specs.Environments.{Entry, is_of}
use Rattle.ps_scope.specs.InsideTables.{oldest, bucket_of, newest, height}
use Rattle.ps_scope.proofs.Oldest.{all_oldest, older}

pub bucket_small : (owner : ℕ) (w : List ℕ) → bucket_of owner w < 65536
bucket_small owner [] = lit< tt
bucket_small owner (x ∷ xs) = omega arith

pub newest_le : (es : List Entry) (b : ℕ) → newest es b ≤ length es
newest_le [] b = omega arith
newest_le (e ∷ es) b = by (bucket_of e.owner e.word == b) (newest_le es b) where
  by : (t : Bool) → newest es b ≤ length es → (if t then suc (length es) else newest es b) ≤ suc (length es)
  by true h = omega arith
  by false h = omega arith

pub height_le : (es : List Entry) (owner : ℕ) (w : List ℕ) → height es owner w ≤ length es
height_le [] owner w = omega arith
height_le (e ∷ es) owner w = by (is_of owner w e) (height_le es owner w) where
  by : (t : Bool) → height es owner w ≤ length es → (if t then suc (length es) else height es owner w) ≤ suc (length es)
  by true h = omega arith
  by false h = omega arith

-- the newest in a bucket is the newest of those up to it
pub newest_up : (es : List Entry) (b : ℕ) → newest es b ≡ newest (oldest (newest es b) es) b
newest_up [] b = refl
newest_up (e ∷ es) b = by (bucket_of e.owner e.word == b) refl (newest_up es b) where
  by : (t : Bool) → (bucket_of e.owner e.word == b) ≡ t → newest es b ≡ newest (oldest (newest es b) es) b → (if t then suc (length es) else newest es b) ≡ newest (oldest (if t then suc (length es) else newest es b) (e ∷ es)) b
  by true q k = sym (ap (λ xs. newest xs b) (all_oldest (e ∷ es) (suc (length es)) (omega arith)) ∙ ap (λ t. if t then suc (length es) else newest es b) q)
  by false q k = k ∙ ap (λ xs. newest xs b) (sym (older e es (newest es b) (newest_le es b)))

both : (a b : Bool) → (a && b) ≡ true → (a ≡ true) × (b ≡ true)
both true true e = (refl, refl)
both true false e = absurd (false≢true e)
both false b e = absurd (false≢true e)

-- an entry of another bucket is of another word or owner
pub other_bucket : (owner : ℕ) (w : List ℕ) (e : Entry) (t : Bool) → is_of owner w e ≡ t → (bucket_of e.owner e.word == bucket_of owner w) ≡ false → t ≡ false
other_bucket owner w e false s h = refl
other_bucket owner w e true s h =
    let p = both (owner == e.owner) (bytes_eq w e.word) s in
    let q = p.0 in
    let o : owner ≡ e.owner = grind (arith, nat_tests) in
    let same : w ≡ e.word = (bytes_eq-Decides w e.word).0 p.1 in
    absurd (false≢true (sym h ∙ eq-eqb (bucket_of e.owner e.word) (bucket_of owner w) (sym (ap (λ o. bucket_of o w) o ∙ ap (bucket_of e.owner) same))))
