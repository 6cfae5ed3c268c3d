-- The text of a signed number, by its sign.
-- For: put_integer
use Rattle.std.proofs.Common.{◌≡◌, ℕ, true, false, eqb, leb, refl, arith}
use Rattle.std.specs.Prelude.{codes, ℤ, pos, negsuc}
use Rattle.std.proofs.lemmas.Bool.{le-leb}
use Rattle.std.proofs.Math.IntN.{nat_abs}
use Rattle.std.specs.Int.Signed.{le_z}
use Rattle.c_ast.specs.Text.{natural_text, negative_text, integer_text}

pub integer_natural : (y z : ℤ) (m : ℕ) → y ≡ z → m ≡ nat_abs y → le_z (pos 0) y ≡ true → integer_text z ≡ natural_text m
unfolding integer_text
integer_natural (pos n) z m e h t = rw (← e, h) refl
integer_natural (negsuc n) z m e h t = absurd cc

pub integer_least : (y z : ℤ) (m : ℕ) → y ≡ z → m ≡ nat_abs y → le_z (pos 0) y ≡ false → m ≡ 9223372036854775808 → integer_text z ≡ codes "(-INT64_C(9223372036854775807)-INT64_C(1))"
unfolding integer_text
integer_least (pos n) z m e h t k = absurd cc
integer_least (negsuc n) z m e h t k = let last : n ≡ 9223372036854775807 = omega arith in rw (← e, last) refl

pub integer_negative : (y z : ℤ) (m : ℕ) → y ≡ z → m ≡ nat_abs y → le_z (pos 0) y ≡ false → (m ≡ 9223372036854775808 → ⊥) → integer_text z ≡ negative_text m
unfolding integer_text
integer_negative (pos n) z m e h t k = let le : leb 0 n ≡ true = le-leb 0 n (omega arith) in absurd cc
integer_negative (negsuc n) z m e h t k = let other : eqb n 9223372036854775807 ≡ false = grind (arith, h, k) in rw (← e, other, h) refl
