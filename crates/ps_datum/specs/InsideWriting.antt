-- What the functions that write data promise each other (this project's own). No public clause cites this file.
use Rattle.std.specs.Prelude.{◌≡◌, ℕ, zero, suc, Result, Ok, Err, Bool, List, [], ◌∷◌, ◌++◌}
use Rattle.ps_base.specs.declared.memory.NoMemory.{NoMemory}
use Rattle.ps_datum.specs.declared.datum.DatumKind.{DatumKind, fold-DatumKind}
use Rattle.ps_datum.specs.Writing.{Text, Cut, known_node, text_node}

-- each name in what a datum is, without its place, is a number of the table
abbrev pub kind_known : List Text → DatumKind → Bool
kind_known names = fold-DatumKind Bool Bool (known_node names) (λ d. d.kind)

-- what stands before the part at a place
abbrev pub space_before : ℕ → Text
space_before zero = []
space_before (suc i) = 32 ∷ []

-- the text of what a datum is, without its place
unfoldable pub kind_written : List Text → DatumKind → Text
kind_written names x = fold-DatumKind Text Text (text_node names) (λ y. y.kind) x

-- all of the text was appended, or a front of it and then memory ran out
abbrev pub Writes : Text → Text → Text → Result (Unit {0}) NoMemory → Type 0
Writes old new text (Ok done) = new ≡ old ++ text
Writes old new text (Err e) = Cut old new text

-- Where texts are written one after another until memory runs out: from one state and result to the next, the text was added.
pub record Adds (old : Text) (before : Result (Unit {0}) NoMemory) (new : Text) (after : Result (Unit {0}) NoMemory) (text : Text) : Type 0 where
  pub holds : (start front : Text) → Writes start old front before → Writes start new (front ++ text) after
