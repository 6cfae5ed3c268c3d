-- What tests say of lists and numbers.
-- For: `program_is_sound`, and the heads and parameters of `resolve`
use Rattle.std.proofs.Common.{◌≡◌, ℕ, zero, suc, ◌<◌, List, [], ◌∷◌, length, Option, Some, None, refl, ap, subst, arith}
use Rattle.std.specs.Prelude.{Bool, true, false, ◌&&◌, slice_get}
use Rattle.std.specs.List.{AllByRecursion}
use Rattle.std.proofs.lemmas.Bool.{eqb-true}
use Rattle.ps_plain.specs.Forms.{has_arity}

pub and_true : (a b : Bool) → (a && b) ≡ true → (a ≡ true) × (b ≡ true)
and_true true b h = (refl, h)
and_true false b h = cc

-- what holds of each member holds of that in a place
pub all_at : {A : Type 0} (P : A → Type 0) (xs : List A) (i : ℕ) (x : A) → AllByRecursion P xs → slice_get xs i ≡ Some x → P x
all_at P [] zero x all at = cc
all_at P [] (suc i) x all at = cc
all_at P (y ∷ ys) zero x all at = let same : y ≡ x = cc in subst P same all.0
all_at P (y ∷ ys) (suc i) x all at = all_at P ys i x all.1 at

-- a place within a list holds something
pub held : {A : Type 0} (xs : List A) (i : ℕ) → i < length xs → (x : A) × (slice_get xs i ≡ Some x)
held [] i h = absurd (omega arith)
held (x ∷ xs) zero h = (x, refl)
held (x ∷ xs) (suc i) h = held xs i (omega arith)

pub arity_known : (n : ℕ) (o : Option ℕ) → has_arity n o ≡ true → o ≡ Some n
arity_known n None h = cc
arity_known n (Some m) h = ap (λ (x : ℕ). Some x) (eqb-true m n h)
