-- Integers of 64 bits in two's complement, and counters that stop at the last number of 64 bits (this project's own).
use Rattle.std.specs.Prelude.{ℕ, ℤ, pos, negsuc, ◌+◌, ◌-◌, ◌<◌, ◌≤◌, min, Bool, List, [], ◌∷◌, Option, Some, None, nat_lt, if◌then◌else◌}

-- the integer has 64 bits: it is from -2^63 to 2^63 - 1
abbrev pub IsWord : ℤ → Type 0
IsWord (pos n) = n < 9223372036854775808
IsWord (negsuc n) = n < 9223372036854775808

-- the same as a test
abbrev pub is_word : ℤ → Bool
is_word (pos n) = nat_lt n 9223372036854775808
is_word (negsuc n) = nat_lt n 9223372036854775808

-- the integer, where it has 64 bits
abbrev pub fit : ℤ → Option ℤ
fit i = if is_word i then Some i else None

-- the integer, where it is a byte: from 0 to 255
abbrev pub byte_of : ℤ → Option ℤ
byte_of (pos n) = if nat_lt n 256 then Some (pos n) else None
byte_of (negsuc n) = None

-- the last number of 64 bits
abbrev pub last : ℕ
last = 18446744073709551615

-- the counter n after k more: it stands still at its last number
abbrev pub more : ℕ → ℕ → ℕ
more n k = n + min k (last - n)

-- a count of faults rose, or stands at its last number
abbrev pub Rose : ℕ → ℕ → Type 0
Rose old new = min (old + 1) last ≤ new

-- the sum of some numbers
abbrev pub sum_of : List ℕ → ℕ
sum_of [] = 0
sum_of (n ∷ ns) = n + sum_of ns
