-- The words of the command line (this project's own): they are exactly `compile`.
use Rattle.std.specs.Prelude.{ℕ, Bool, List, [], ◌∷◌, Option, None, Some, codes, if◌then◌else◌}
use Rattle.std.specs.Str.{bytes_eq}

abbrev pub is_command : List ℕ → Bool
is_command word = bytes_eq word (codes "compile")

-- the index of the first word that breaks the rule, or the number of words where there is no command
abbrev pub words_fault : List (List ℕ) → Option ℕ
words_fault [] = Some 0
words_fault (command ∷ []) = if is_command command then None else Some 0
words_fault (command ∷ word ∷ words) = if is_command command then Some 1 else Some 0
