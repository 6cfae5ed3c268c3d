-- Numbers of 32 bits (private to rows of distinct numbers).
use Rattle.std.specs.Prelude.{◌≡◌, ℕ, ◌<◌, ◌^◌, List, true, nat_eq}
use Rattle.std.specs.List.{list_any}

-- each of these is a number of 32 bits
pub record AreNumbers (numbers : List ℕ) : Type 0 where
  pub below : (n : ℕ) → list_any (nat_eq n) numbers ≡ true → n < 2 ^ 32
