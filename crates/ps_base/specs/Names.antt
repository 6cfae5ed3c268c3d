-- A table of distinct texts: the number of a text is its place in the list (this project's own).
use Rattle.std.specs.Prelude.{◌≡◌, ◌≢◌, ℕ, suc, List, [], ◌∷◌, ◌++◌, length, slice_get, Option, Some, None, ◌⊎◌, if◌then◌else◌}
use Rattle.std.specs.Option.{option_map}
use Rattle.std.specs.Str.{bytes_eq}

-- no text stands at two numbers
abbrev pub AreDistinct : List (List ℕ) → Type 0
AreDistinct texts = (i j : ℕ) (text : List ℕ) → slice_get texts i ≡ Some text → slice_get texts j ≡ Some text → i ≡ j

-- the text stands in no place
abbrev pub IsNew : List (List ℕ) → List ℕ → Type 0
IsNew texts text = (i : ℕ) → slice_get texts i ≢ Some text

-- the table after a text was added: a text that is there keeps its number, and a new one comes last
pub record Adds (old new : List (List ℕ)) (text : List ℕ) (number : ℕ) : Type 0 where
  pub stands : slice_get new number ≡ Some text
  pub grown : (new ≡ old) ⊎ ((new ≡ old ++ text ∷ []) × (number ≡ length old) × IsNew old text)

-- the number of a text: the first place in which it stands, where it stands in one
abbrev pub number_of : List (List ℕ) → List ℕ → Option ℕ
number_of [] text = None
number_of (t ∷ texts) text = if bytes_eq text t then Some 0 else option_map suc (number_of texts text)
