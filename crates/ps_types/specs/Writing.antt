-- The text of a type, where a list has the kinds of records and a table their names (this project's own).
-- Read the last definition first: `type_text kinds names t` is the text of t as the cases of `text_node` put it together
-- from the texts of its parts. A variable is `t` and its number, which counts the different variables that stand before
-- the first place where it appears in t.
use Rattle.std.specs.Prelude.{ℕ, suc, nat_lt, Bool, true, false, ◌&&◌, ◌||◌, ◌==◌, if◌then◌else◌, List, [], ◌∷◌, ◌++◌, Option, Some, None, codes, decimal, length, slice_get, slice_index_or}
use Rattle.std.specs.List.{concat}
use Rattle.ps_base.specs.Texts.{◌&◌}
use Rattle.ps_types.specs.declared.types.Ty.{Ty, Ty-F, fold-Ty}
use Rattle.ps_types.specs.declared.types.RecordKind.{RecordKind}

abbrev pub Text : Type 0
Text = List ℕ

-- ---- variables

abbrev pub variables_node : Ty-F (List ℕ) → List ℕ
variables_node Ty-F.Integer = []
variables_node Ty-F.Boolean = []
variables_node Ty-F.Char = []
variables_node Ty-F.Unit = []
variables_node Ty-F.Address = []
variables_node Ty-F.Text = []
variables_node (Ty-F.Vector xs) = xs
variables_node (Ty-F.Tuple k) = []
variables_node (Ty-F.Proc parts xs) = concat parts ++ xs
variables_node (Ty-F.Var x) = x ∷ []

-- the variables of a type in the order in which they appear, each as often as it does
abbrev pub variables : Ty → List ℕ
variables = fold-Ty (List ℕ) variables_node

-- what stands before the first place of x
abbrev pub before : ℕ → List ℕ → List ℕ
before x [] = []
before x (y ∷ ys) = if y == x then [] else y ∷ before x ys

abbrev pub stands_in : ℕ → List ℕ → Bool
stands_in x [] = false
stands_in x (y ∷ ys) = y == x || stands_in x ys

-- how many different members there are: each is counted where it stands last
abbrev pub different : List ℕ → ℕ
different [] = 0
different (x ∷ xs) = if stands_in x xs then different xs else suc (different xs)

-- the number of a variable in the text of a type that has these variables
abbrev pub number : List ℕ → ℕ → ℕ
number xs x = different (before x xs)

-- ---- records

abbrev pub name_text : List Text → Option RecordKind → Text
name_text names None = []
name_text names (Some kind) = slice_index_or names kind.name.0 []

-- the name of the kind of this number
abbrev pub kind_text : List RecordKind → List Text → ℕ → Text
kind_text kinds names k = name_text names (slice_get kinds k)

abbrev pub name_known : List Text → Option RecordKind → Bool
name_known names None = false
name_known names (Some kind) = nat_lt kind.name.0 (length names)

-- there is a kind of this number, and its name is one of the table
abbrev pub kind_known : List RecordKind → List Text → ℕ → Bool
kind_known kinds names k = name_known names (slice_get kinds k)

abbrev pub all_known : List Bool → Bool
all_known [] = true
all_known (b ∷ bs) = b && all_known bs

abbrev pub known_node : List RecordKind → List Text → Ty-F Bool → Bool
known_node kinds names Ty-F.Integer = true
known_node kinds names Ty-F.Boolean = true
known_node kinds names Ty-F.Char = true
known_node kinds names Ty-F.Unit = true
known_node kinds names Ty-F.Address = true
known_node kinds names Ty-F.Text = true
known_node kinds names (Ty-F.Vector b) = b
known_node kinds names (Ty-F.Tuple k) = kind_known kinds names k
known_node kinds names (Ty-F.Proc bs b) = all_known bs && b
known_node kinds names (Ty-F.Var x) = true

-- each record in the type has a kind, whose name is one of the table
abbrev pub is_known : List RecordKind → List Text → Ty → Bool
is_known kinds names = fold-Ty Bool (known_node kinds names)

-- ---- the text

-- the parts from the second on, each behind a space
abbrev pub next_parts : List Text → Text
next_parts [] = []
next_parts (x ∷ xs) = codes " " & x & next_parts xs

-- parts with one space between them
abbrev pub spaced : List Text → Text
spaced [] = []
spaced (x ∷ xs) = x & next_parts xs

-- a type, where its parts have these texts, within a type that has these variables
abbrev pub text_node : List RecordKind → List Text → List ℕ → Ty-F Text → Text
text_node kinds names vars Ty-F.Integer = codes "integer"
text_node kinds names vars Ty-F.Boolean = codes "boolean"
text_node kinds names vars Ty-F.Char = codes "char"
text_node kinds names vars Ty-F.Unit = codes "unit"
text_node kinds names vars Ty-F.Address = codes "address"
text_node kinds names vars Ty-F.Text = codes "string"
text_node kinds names vars (Ty-F.Vector item) = codes "(vector " & item & codes ")"
text_node kinds names vars (Ty-F.Tuple k) = kind_text kinds names k
text_node kinds names vars (Ty-F.Proc parts answer) = codes "(proc (" & spaced parts & codes ") " & answer & codes ")"
text_node kinds names vars (Ty-F.Var x) = codes "t" & decimal (number vars x)

-- a type within a type that has these variables
unfoldable pub text_in : List RecordKind → List Text → List ℕ → Ty → Text
text_in kinds names vars t = fold-Ty Text (text_node kinds names vars) t

abbrev pub type_text : List RecordKind → List Text → Ty → Text
type_text kinds names t = text_in kinds names (variables t) t
