-- The folders that words name (this project's own): what follows `--path=` in each word that begins so, in order.
use Rattle.std.specs.Prelude.{ℕ, List, [], ◌∷◌, Option, None, Some, nat_eq, codes, if◌then◌else◌}

-- what follows a text at the front of a word, where the word begins so
abbrev pub behind : List ℕ → List ℕ → Option (List ℕ)
behind [] word = Some word
behind (b ∷ front) [] = None
behind (b ∷ front) (c ∷ word) = if nat_eq b c then behind front word else None

abbrev pub with_folder : Option (List ℕ) → List (List ℕ) → List (List ℕ)
with_folder None folders = folders
with_folder (Some folder) folders = folder ∷ folders

abbrev pub folders_of : List (List ℕ) → List (List ℕ)
folders_of [] = []
folders_of (word ∷ words) = with_folder (behind (codes "--path=") word) (folders_of words)
