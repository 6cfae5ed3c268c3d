-- Tests that hold or do not, options and results that are there or not, and members of a list of which each has a property.
-- For: the proofs of all crates
use Rattle.std.proofs.Common.{◌≡◌, ℕ, zero, suc, List, [], ◌∷◌, Bool, true, false, Some, None, Result, Ok, Err, refl, subst, ◌⊎◌, inl, inr}
use Rattle.std.specs.Prelude.{◌&&◌, ◌||◌, slice_get}
use Rattle.std.specs.List.{AllByRecursion}

pub true_or_false : (b : Bool) → (b ≡ true) ⊎ (b ≡ false)
true_or_false true = inl refl
true_or_false false = inr refl

pub true_false : {A : Type 0} → true ≡ false → A
true_false e = absurd (let clash : true ≡ false = e in cc)

pub and_true : (a b : Bool) → (a && b) ≡ true → (a ≡ true) × (b ≡ true)
and_true true b h = (refl, h)
and_true false b h = cc

pub and_left : (a b : Bool) → (a && b) ≡ true → a ≡ true
and_left a b h = (and_true a b h).0

pub and_rest : (a b : Bool) → (a && b) ≡ true → b ≡ true
and_rest a b h = (and_true a b h).1

pub and_both : (a b : Bool) → a ≡ true → b ≡ true → (a && b) ≡ true
and_both true b h g = g
and_both false b h g = cc

pub or_false : (a b : Bool) → (a || b) ≡ false → (a ≡ false) × (b ≡ false)
or_false true b h = cc
or_false false b h = (refl, h)

pub none_some : {A B : Type 0} {a : A} → None ≡ Some a → B
none_some {A} {B} {a} e = absurd (let clash : None ≡ Some a = e in cc)

pub some_same : {A : Type 0} {a b : A} → Some a ≡ Some b → a ≡ b
some_same {A} {a} {b} e = let same : Some a ≡ Some b = e in cc

pub err_ok : {A B E : Type 0} {a : A} {e : E} → Err e ≡ Ok a → B
err_ok {A} {B} {E} {a} {e} is = absurd (let clash : Err e ≡ Ok a = is in cc)

pub ok_same : {A E : Type 0} {a b : A} → ◌≡◌ {A = Result A E} (Ok a) (Ok b) → a ≡ b
ok_same {A} {E} {a} {b} e = let same : ◌≡◌ {A = Result A E} (Ok a) (Ok b) = e in cc

pub all_at : {A : Type 0} (P : A → Type 0) (xs : List A) (i : ℕ) (x : A) → AllByRecursion P xs → slice_get xs i ≡ Some x → P x
all_at P [] zero x all at = cc
all_at P [] (suc i) x all at = cc
all_at P (y ∷ ys) zero x all at = let same : y ≡ x = cc in subst P same all.0
all_at P (y ∷ ys) (suc i) x all at = all_at P ys i x all.1 at
