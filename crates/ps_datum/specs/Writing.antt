-- The text of a datum, where a table lists the names (this project's own, after R5RS 6.3).
use Rattle.std.specs.Prelude.{◌≡◌, ℕ, nat_lt, Bool, true, false, ◌&&◌, ◌==◌, ◌||◌, if◌then◌else◌, List, [], ◌∷◌, ◌++◌, codes, length, slice_index_or}
use Rattle.std.specs.List.{flat_map}
use Rattle.std.specs.Fmt.{signed_decimal}
use Rattle.ps_datum.specs.declared.datum.Datum.{Datum, fold-Datum}
use Rattle.ps_datum.specs.declared.datum.DatumKind.TheOpen.{DatumKind-F}

abbrev pub Text : Type 0
Text = List ℕ

-- ---- the names of a datum are in a table

abbrev pub all_known : List Bool → Bool
all_known [] = true
all_known (b ∷ bs) = b && all_known bs

abbrev pub known_node : List Text → DatumKind-F Bool Bool → Bool
known_node names (DatumKind-F.Boolean b) = true
known_node names (DatumKind-F.Integer i) = true
known_node names (DatumKind-F.Char c) = true
known_node names (DatumKind-F.Text bytes) = true
known_node names (DatumKind-F.Symbol name) = nat_lt name.0 (length names)
known_node names (DatumKind-F.List bs) = all_known bs
known_node names (DatumKind-F.Dotted bs b) = all_known bs && b
known_node names (DatumKind-F.Vector bs) = all_known bs

-- each name in the datum is a number of the table
abbrev pub is_known : List Text → Datum → Bool
is_known names = fold-Datum Bool Bool (known_node names) (λ d. d.kind)

-- ---- the text

-- a backslash before each backslash and each double quote
abbrev pub escaped_byte : ℕ → Text
escaped_byte c = if c == 34 || c == 92 then 92 ∷ c ∷ [] else c ∷ []

abbrev pub string_text : Text → Text
string_text bytes = 34 ∷ flat_map escaped_byte bytes ++ 34 ∷ []

abbrev pub char_text : ℕ → Text
char_text c = if c == 32 then codes "#\\space" else (if c == 10 then codes "#\\newline" else 35 ∷ 92 ∷ c ∷ [])

-- parts with one space between them
abbrev pub spaced : List Text → Text
spaced [] = []
spaced (x ∷ xs) = x ++ flat_map (λ y. 32 ∷ y) xs

-- a kind, where the parts have these texts
abbrev pub text_node : List Text → DatumKind-F Text Text → Text
text_node names (DatumKind-F.Boolean true) = codes "#t"
text_node names (DatumKind-F.Boolean false) = codes "#f"
text_node names (DatumKind-F.Integer i) = signed_decimal i
text_node names (DatumKind-F.Char c) = char_text c
text_node names (DatumKind-F.Text bytes) = string_text bytes
text_node names (DatumKind-F.Symbol name) = slice_index_or names name.0 []
text_node names (DatumKind-F.List parts) = 40 ∷ spaced parts ++ 41 ∷ []
text_node names (DatumKind-F.Dotted parts last) = 40 ∷ spaced parts ++ codes " . " ++ last ++ 41 ∷ []
text_node names (DatumKind-F.Vector parts) = 35 ∷ 40 ∷ spaced parts ++ 41 ∷ []

unfoldable pub written : List Text → Datum → Text
written names d = fold-Datum Text Text (text_node names) (λ x. x.kind) d

-- ---- what becomes of a list of bytes where memory runs out

-- a front of the text was appended
pub record Cut (old new text : Text) : Type 0 where
  pub front : Text
  pub rest : Text
  pub parts : text ≡ front ++ rest
  pub appended : new ≡ old ++ front
