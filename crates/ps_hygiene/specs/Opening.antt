-- Entering a structure: which names it opens, and what these mean (this project's own). The definitions of what it opens are complete.
use Rattle.std.specs.Prelude.{ℕ, List, [], ◌∷◌, Option, Some, None, slice_get}
use Rattle.ps_base.specs.Names.{number_of}
use Rattle.ps_modules.specs.declared.types.Export.{Export}
use Rattle.ps_modules.specs.declared.types.Opened.{Opened}
use Rattle.ps_modules.specs.declared.types.Opened.TheVariants as opened
use Rattle.ps_modules.specs.declared.types.Structure.{Structure}
use Rattle.ps_pattern.specs.declared.binding.Binding.{Binding}
use Rattle.ps_scope.specs.Environments.{Entry, entry_of, defined}
use Rattle.ps_hygiene.specs.Language.{Word, all_words, memory_words, record_words}
use Rattle.ps_hygiene.specs.Worlds.{World}

abbrev pub with_entry : ℕ → Option ℕ → Option Binding → List Entry → List Entry
with_entry k (Some name) (Some binding) es = entry_of k (name ∷ []) binding ∷ es
with_entry k name binding es = es

-- names of the language, so far as the table of names has them
abbrev pub with_words : List (List ℕ) → ℕ → List Word → List Entry → List Entry
with_words names k [] es = es
with_words names k (word ∷ words) es = with_words names k words (with_entry k (number_of names word.text) (Some word.binding) es)

-- names that structure j exports
abbrev pub with_exports : List Entry → ℕ → ℕ → List Export → List Entry → List Entry
with_exports own k j [] es = es
with_exports own k j (x ∷ exports) es = with_exports own k j exports (with_entry k (Some x.name.0) (defined own j (x.name.0 ∷ [])) es)

abbrev pub exports_at : Option Structure → List Export
exports_at (Some s) = s.exports
exports_at None = []

module _ (names : List (List ℕ)) (order : List Structure) (own : List Entry) (k : ℕ) where
  abbrev pub with_opened : Opened → List Entry → List Entry
  with_opened opened.Prescheme es = with_words names k all_words es
  with_opened opened.Memory es = with_words names k memory_words es
  with_opened opened.Records es = with_words names k record_words es
  with_opened (opened.At j) es = with_exports own k j (exports_at (slice_get order j)) es

  abbrev pub with_all : List Opened → List Entry → List Entry
  with_all [] es = es
  with_all (o ∷ opens) es = with_all opens (with_opened o es)

abbrev pub opens_at : Option Structure → List Opened
opens_at (Some s) = s.opens
opens_at None = []

-- structure k is entered
unfoldable pub entered : List (List ℕ) → List Structure → ℕ → World → World
entered names order k w = record w { structure = k; opened = with_all names order w.own k (opens_at (slice_get order k)) w.opened }
