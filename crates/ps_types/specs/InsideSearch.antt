-- The search for the least of some variables (this project's own): what the functions that number variables promise each
-- other. A search goes over variables in order, `seen` for each, and stops where one is met; what it has then found is the
-- `Least` member, from a floor on, of those before. No public clause cites this file.
use Rattle.std.specs.Prelude.{◌≡◌, ℕ, ◌<◌, ◌≤◌, nat_lt, ◌==◌, true, if◌then◌else◌, List, [], ◌∷◌, Option, Some, None, ◌⊎◌}
use Rattle.ps_types.specs.Writing.{stands_in}
use Rattle.ps_types.specs.declared.numbering.Search.{Search}

-- the lesser of what was found so far and a variable, which counts only from the floor on
abbrev pub lower_of : ℕ → Option ℕ → ℕ → Option ℕ
lower_of floor None x = if nat_lt x floor then None else Some x
lower_of floor (Some y) x = if nat_lt x floor then Some y else (if nat_lt x y then Some x else Some y)

-- a search, where one more variable was met
abbrev pub seen : Search → ℕ → Search
seen s x = if s.met then s else (if x == s.stop then record s { met = true } else record s { least = lower_of s.floor s.least x })

abbrev pub all_below : ℕ → List ℕ → Type 0
all_below floor [] = Unit {0}
all_below floor (x ∷ xs) = (x < floor) × all_below floor xs

-- each member is below the floor, or y or more
abbrev pub none_between : ℕ → ℕ → List ℕ → Type 0
none_between floor y [] = Unit {0}
none_between floor y (x ∷ xs) = ((x < floor) ⊎ (y ≤ x)) × none_between floor y xs

-- the least member from the floor on
pub record IsLeast (floor : ℕ) (xs : List ℕ) (y : ℕ) : Type 0 where
  pub reaches : floor ≤ y
  pub stands : stands_in y xs ≡ true
  pub least : none_between floor y xs

-- there is no member from the floor on
pub record NoneFrom (floor : ℕ) (xs : List ℕ) : Type 0 where
  pub below : all_below floor xs

-- the least member from the floor on, where there is one
abbrev pub Least : ℕ → List ℕ → Option ℕ → Type 0
Least floor xs None = NoneFrom floor xs
Least floor xs (Some y) = IsLeast floor xs y
