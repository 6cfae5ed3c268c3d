-- A text whose brackets may be nested to some depth only, or the place where it would be deeper (this project's own).
-- Texts are joined from left to right, and the first place that is too deep is all that is left of a join.
use Rattle.std.specs.Prelude.{ℕ, List, [], ◌∷◌, ◌++◌, codes, Option, Some, None}
use Rattle.ps_base.specs.declared.faults.Place.{Place}

pub data Shown : Type 0 where
  -- a text
  Text : List ℕ → Shown
  -- a bracket would be too deep, in the form of this place
  Deep : Place → Shown

-- one text and then another
infixr 40 ◌⋄◌
unfoldable pub ◌⋄◌ : Shown → Shown → Shown
Text a ⋄ Text b = Text (a ++ b)
Text a ⋄ Deep at = Deep at
Deep at ⋄ b = Deep at

-- the texts of the members, each behind a space
unfoldable pub behind : {A : Type 0} → (A → Shown) → List A → Shown
behind f [] = Text []
behind f (x ∷ xs) = Text (codes " ") ⋄ (f x ⋄ behind f xs)

-- the texts of the members with one space between them
unfoldable pub spaced : {A : Type 0} → (A → Shown) → List A → Shown
spaced f [] = Text []
spaced f (x ∷ xs) = f x ⋄ behind f xs

-- a text in brackets, which stand in the form of a place; where no bracket may be opened any more, it is too deep
unfoldable pub bracket : {A : Type 0} → Place → Option A → (A → Shown) → Shown
bracket at None inside = Deep at
bracket at (Some room) inside = Text (codes "(") ⋄ (inside room ⋄ Text (codes ")"))
