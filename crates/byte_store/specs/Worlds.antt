-- The world that a program runs in: its input and what becomes of its allocations (this project's own).
use Rattle.std.specs.Prelude.{ℕ, ℤ, pos, negsuc, Bool, false, List, [], ◌∷◌}

-- the bytes of the input that are left, and for each allocation to come, in order, whether it is granted
pub record Surroundings : Type 0 where
  pub input : List ℕ
  pub grants : List Bool

-- the next byte of the input, or -1 at its end
abbrev pub next_byte : List ℕ → ℤ
next_byte [] = negsuc 0
next_byte (b ∷ bs) = pos b

-- past the end of the grants an allocation is refused
abbrev pub next_grant : List Bool → Bool
next_grant [] = false
next_grant (g ∷ gs) = g

abbrev pub rest_of : {A : Type 0} → List A → List A
rest_of [] = []
rest_of (x ∷ xs) = xs
