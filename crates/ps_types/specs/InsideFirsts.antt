-- The variables of a type in the order in which they first appear (this project's own): what the functions that note them
-- promise each other. No public clause cites this file.
use Rattle.std.specs.Prelude.{◌≡◌, ℕ, nat_lt, if◌then◌else◌, List, [], ◌∷◌, ◌++◌, Some, length, slice_get}
use Rattle.ps_types.specs.Writing.{stands_in, number}

-- what was noted so far, and one more variable, unless it was noted before or there is no room
abbrev pub noted : List ℕ → ℕ → List ℕ
noted firsts x = if stands_in x firsts then firsts else (if nat_lt (length firsts) 1000 then firsts ++ x ∷ [] else firsts)

-- each of these has its place as its number, in a type that has these variables
pub record Numbered (variables firsts : List ℕ) : Type 0 where
  pub at : (i x : ℕ) → slice_get firsts i ≡ Some x → number variables x ≡ i
