-- What a set of locals holds.
-- For: `Locals` and `first_fixed_set`
use Rattle.std.proofs.Common.{◌≡◌, ℕ, ◌<◌, Bool, true, false, List, [], ◌∷◌, refl, ap, ◌∙◌, arith}
use Rattle.std.specs.Prelude.{◌==◌, ◌||◌, if◌then◌else◌, nat_lt}
use Rattle.std.specs.Ordering.{nat_cmp, is_eq, match_ordering}
use Rattle.std.specs.BTreeMap.{is_at}
use Rattle.std.specs.List.{list_any}
use Rattle.std.specs.declared.cmp.Ordering.TheVariants.{Less, Equal, Greater}
use Rattle.std.proofs.lemmas.Bool.{eqb-true, eqb-false, ltb-true}
use Rattle.ps_kernel.specs.Lists.{stands_in}
use Rattle.ps_captured.specs.InsideTables.{with_local}

pub at_key : (y z : ℕ) → is_at (nat_cmp y) z ≡ (y == z)
at_key y z = by (nat_lt y z) (y == z) refl refl
  where
    by : (a b : Bool) → nat_lt y z ≡ a → (y == z) ≡ b → is_eq (if a then Less else (if b then Equal else Greater)) ≡ b
    by true true l e = let lt : y < z = ltb-true y z l in let is : y ≡ z = eqb-true y z e in absurd (omega arith)
    by true false l e = refl
    by false true l e = refl
    by false false l e = refl

pub found : (x : ℕ) (ys : List ℕ) → list_any (is_at (nat_cmp x)) ys ≡ stands_in x ys
found x [] = refl
found x (y ∷ ys) = ap (λ (b : Bool). b || list_any (is_at (nat_cmp x)) ys) (at_key x y) ∙ ap (λ (b : Bool). (x == y) || b) (found x ys)

-- a set holds what was put in, and what it held
pub holds : (x y : ℕ) (ys : List ℕ) → stands_in x (with_local ys y) ≡ ((x == y) || stands_in x ys)
holds x y [] = refl
holds x y (z ∷ zs) = by (nat_lt y z) (y == z) refl (holds x y zs)
  where
    again : (a b c : Bool) → (y == z) ≡ true → (x == y) ≡ a → (x == z) ≡ b → (b || c) ≡ (a || (b || c))
    again true true c e p q = refl
    again true false c e p q = absurd (eqb-false x z q (eqb-true x y p ∙ eqb-true y z e))
    again false true c e p q = refl
    again false false c e p q = refl

    swap : (a b c : Bool) → (b || (a || c)) ≡ (a || (b || c))
    swap true true c = refl
    swap true false c = refl
    swap false true c = refl
    swap false false c = refl

    by : (a b : Bool) → (y == z) ≡ b → stands_in x (with_local zs y) ≡ ((x == y) || stands_in x zs)
        → stands_in x (match_ordering (if a then Less else (if b then Equal else Greater)) (y ∷ z ∷ zs) (z ∷ zs) (z ∷ with_local zs y)) ≡ ((x == y) || ((x == z) || stands_in x zs))
    by true b q h = refl
    by false true q h = again (x == y) (x == z) (stands_in x zs) q refl refl
    by false false q h = ap (λ (b : Bool). (x == z) || b) h ∙ swap (x == y) (x == z) (stands_in x zs)
