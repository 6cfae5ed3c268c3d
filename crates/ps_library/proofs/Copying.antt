-- What is copied of a text stands in it.
-- For: MemoryLibrary::read
use Rattle.std.proofs.Common.{◌≡◌, ℕ, List, ◌++◌, take, drop, Option, Some, sym, ap, ◌∙◌}
use Rattle.std.proofs.lemmas.List.{take-append-drop}
use Rattle.ps_library.specs.Libraries.{Stands}

pub copied : (file : Option (List ℕ)) (text : List ℕ) (from k : ℕ) (into : List ℕ) → file ≡ Some text → take k into ≡ take k (drop from text) → Stands file from (take k into)
copied file text from k into is e = record { text = text; is = is; rest = drop k (drop from text); parts = sym (take-append-drop k (drop from text)) ∙ ap (λ front. front ++ drop k (drop from text)) (sym e) }
