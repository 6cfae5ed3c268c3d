-- The tokens of a text (R5RS 7.1.1, in this project's profile). A run is a longest row of bytes that are no delimiters. The
-- names of a text are listed in a table in the order in which they come, each once.
use Rattle.std.specs.Prelude.{codes, ℕ, zero, suc, ◌+◌, ◌-◌, Bool, true, false, not, ◌&&◌, ◌||◌, ◌==◌, nat_le, nat_lt, if◌then◌else◌, List, [], ◌∷◌, ◌++◌, length, take, drop, map, slice_index, Option, Some, None}
use Rattle.std.specs.List.{prefix_len, list_all, list_any, count_by}
use Rattle.std.specs.Char.{to_ascii_lowercase}
use Rattle.std.specs.Str.{bytes_eq}
use Rattle.std.specs.Char.{digit_value}
use Rattle.std.specs.Str.Parse.{without_leading_sign, signed_digits_value}
use Rattle.ps_base.specs.Names.{number_of}
use Rattle.ps_base.specs.Numbers.{is_word}
use Rattle.ps_base.specs.declared.faults.Place.{Place}
use Rattle.ps_base.specs.declared.names.Name.{Name}
use Rattle.ps_base.specs.declared.faults.SyntaxKind.TheVariants as b
use Rattle.ps_datum.specs.declared.datum.DatumKind.TheVariants as k
use Rattle.ps_read.specs.declared.token.Token.{Token}
use Rattle.ps_read.specs.declared.token.Word.{Word}
use Rattle.ps_read.specs.declared.token.Word.TheVariants as w
use Rattle.ps_read.specs.declared.token.Front.{Front}
use Rattle.ps_read.specs.declared.token.Front.TheVariants.{Gap, Whole, Named, Quoted, Stop}
use Rattle.ps_read.specs.Grammar.{token}

abbrev pub is_space : ℕ → Bool
is_space c = c == 9 || c == 10 || c == 12 || c == 13 || c == 32

abbrev pub is_delimiter : ℕ → Bool
is_delimiter c = is_space c || c == 40 || c == 41 || c == 34 || c == 59

-- the text ends, or begins with a delimiter
abbrev pub ends_here : List ℕ → Bool
ends_here [] = true
ends_here (c ∷ cs) = is_delimiter c

-- how many bytes the run takes that the text begins with
abbrev pub run_len : List ℕ → ℕ
run_len text = prefix_len (λ c. not (is_delimiter c)) text

abbrev pub small : List ℕ → List ℕ
small run = map to_ascii_lowercase run

-- ---- identifiers, in small letters

abbrev pub is_digit : ℕ → Bool
is_digit c = nat_le 48 c && nat_le c 57

abbrev pub is_letter : ℕ → Bool
is_letter c = nat_le 97 c && nat_le c 122

-- a letter or one of these signs
abbrev pub is_initial : ℕ → Bool
is_initial c = is_letter c || list_any (λ x. x == c) (codes "!$%&*/:<=>?^_~")

abbrev pub is_subsequent : ℕ → Bool
is_subsequent c = is_initial c || is_digit c || list_any (λ x. x == c) (codes "+-.@")

-- +, - or ...; or -> and subsequents; or an initial and subsequents
unfoldable pub is_identifier : List ℕ → Bool
is_identifier name =
    bytes_eq name (codes "+") || bytes_eq name (codes "-") || bytes_eq name (codes "...") || (bytes_eq (take 2 name) (codes "->") && list_all is_subsequent (drop 2 name))
    || (is_initial (slice_index name 0) && list_all is_subsequent (drop 1 name))

-- ---- numbers

-- one digit of the base or more, and nothing else
unfoldable pub is_numeral : ℕ → List ℕ → Bool
is_numeral base digits = nat_lt 0 (length digits) && list_all (λ c. nat_lt (digit_value c) base) digits

-- an integer, which has 64 bits or is too wide
unfoldable pub integer_word : ℕ → List ℕ → Word
integer_word base run = if is_word (signed_digits_value base run) then w.Atom (k.Integer (signed_digits_value base run)) else w.Broken b.WideLiteral

-- the base that a letter stands for
abbrev pub base_of : ℕ → Option ℕ
base_of c = if c == 120 then Some 16 else (if c == 100 then Some 10 else (if c == 111 then Some 8 else (if c == 98 then Some 2 else None)))

-- the base that a run gives behind a #
abbrev pub marked_base : List ℕ → Option ℕ
marked_base run = if slice_index run 0 == 35 then base_of (to_ascii_lowercase (slice_index run 1)) else None

abbrev pub is_numeral_in : Option ℕ → List ℕ → Bool
is_numeral_in None run = false
is_numeral_in (Some base) run = is_numeral base (without_leading_sign (drop 2 run))

abbrev pub word_in : Option ℕ → List ℕ → Word
word_in None run = w.Broken b.BadToken
word_in (Some base) run = integer_word base (drop 2 run)

-- the digits and points that a run begins with
abbrev pub is_mantissa_byte : ℕ → Bool
is_mantissa_byte c = is_digit c || c == 46

abbrev pub mantissa_len : List ℕ → ℕ
mantissa_len run = prefix_len is_mantissa_byte run

-- a digit or more, and at most one point
abbrev pub is_mantissa : List ℕ → Bool
is_mantissa cs = list_any is_digit cs && nat_le (count_by (λ c. c == 46) cs) 1

-- nothing, or a letter, an optional sign and digits
abbrev pub is_exponent : List ℕ → Bool
is_exponent [] = true
is_exponent (c ∷ cs) = list_any (λ x. x == to_ascii_lowercase c) (codes "esfdl") && is_numeral 10 (without_leading_sign cs)

-- a number with a point or an exponent
unfoldable pub is_float : List ℕ → Bool
is_float run =
    let digits = without_leading_sign run in
    is_mantissa (take (mantissa_len digits) digits) && is_exponent (drop (mantissa_len digits) digits)

-- ---- what a run is

unfoldable pub run_word : ℕ → List ℕ → Front
run_word n run =
    if bytes_eq run (codes ".") then Whole n w.Dot
    else (if bytes_eq (small run) (codes "#t") then Whole n (w.Atom (k.Boolean true))
    else (if bytes_eq (small run) (codes "#f") then Whole n (w.Atom (k.Boolean false))
    else (if is_numeral 10 (without_leading_sign run) then Whole n (integer_word 10 run)
    else (if is_numeral_in (marked_base run) run then Whole n (word_in (marked_base run) run)
    else (if is_identifier (small run) then Named n (small run)
    else (if is_float run then Whole n (w.Broken b.FloatLiteral)
    else Whole n (w.Broken b.BadToken)))))))

-- ---- characters, behind #\

-- the names of characters
abbrev pub named_char : ℕ → List ℕ → Front
named_char n name =
    if bytes_eq name (codes "space") then Whole n (w.Atom (k.Char 32))
    else (if bytes_eq name (codes "newline") then Whole n (w.Atom (k.Char 10)) else Stop 0 b.BadCharacter)

-- one byte before a delimiter, or a name
unfoldable pub char_front : List ℕ → Front
char_front [] = Stop 0 b.BadCharacter
char_front (c ∷ cs) =
    if nat_le 32 c && nat_le c 126 && ends_here cs then Whole 3 (w.Atom (k.Char c))
    else named_char (2 + run_len (c ∷ cs)) (small (take (run_len (c ∷ cs)) (c ∷ cs)))

-- ---- strings

abbrev pub is_escape : ℕ → Bool
is_escape c = c == 92 || c == 34 || c == 110

abbrev pub escaped : ℕ → ℕ
escaped c = if c == 110 then 10 else c

-- The rest of a string, where `at` bytes of it came, which stand for `done`, the last of them a backslash or not. A breach is told with how many bytes stand before it.
unfoldable pub string_from : Bool → ℕ → List ℕ → List ℕ → Front
string_from true at done [] = Stop (at - 1) b.BadEscape
string_from false at done [] = Stop 0 b.Unclosed
string_from true at done (c ∷ cs) = if is_escape c then string_from false (at + 1) (done ++ escaped c ∷ []) cs else Stop (at - 1) b.BadEscape
string_from false at done (c ∷ cs) =
    if c == 34 then Whole (at + 1) (w.Atom (k.Text done))
    else (if c == 0 then Stop at b.BadCharacter
    else (if c == 92 then string_from true (at + 1) done cs else string_from false (at + 1) (done ++ c ∷ []) cs))

-- ---- the front of a text

-- a run that is no token is a breach at its first byte
abbrev pub run_front : List ℕ → Front
run_front text = run_word (run_len text) (take (run_len text) text)

-- a gap or a token of so many bytes, or a breach after so many
unfoldable pub front_of : ℕ → List ℕ → Front
front_of c cs =
    if is_space c then Gap 1
    else (if c == 59 then Gap (1 + prefix_len (λ x. not (x == 10)) cs)
    else (if c == 40 then Whole 1 w.Open
    else (if c == 41 then Whole 1 w.Close
    else (if c == 39 then Quoted
    else (if c == 34 then string_from false 1 [] cs
    else (if c == 35 && slice_index cs 0 == 40 then Whole 2 w.VectorOpen
    else (if c == 35 && slice_index cs 0 == 92 then char_front (drop 1 cs)
    else run_front (c ∷ cs))))))))

-- ---- the table of names

abbrev pub Table : Type 0
Table = List (List ℕ)

abbrev pub number_or : ℕ → Option ℕ → ℕ
number_or n None = n
number_or n (Some m) = m

-- the number of a name, which is the next one where it is new
abbrev pub number_in : Table → List ℕ → ℕ
number_in names text = number_or (length names) (number_of names text)

abbrev pub added_by : Table → List ℕ → Option ℕ → Table
added_by names text None = names ++ text ∷ []
added_by names text (Some n) = names

-- the table with a name
abbrev pub added : Table → List ℕ → Table
added names text = added_by names text (number_of names text)

abbrev pub name_in : Table → List ℕ → Name
name_in names text = record { 0 = number_in names text }

-- a front in which a name has its number in the table
unfoldable pub resolved : Table → Front → Front
resolved names (Named n name) = Whole n (w.Atom (k.Symbol (name_in names name)))
resolved names Quoted = Whole 1 (w.Quote (name_in names (codes "quote")))
resolved names (Gap n) = Gap n
resolved names (Whole n x) = Whole n x
resolved names (Stop n kind) = Stop n kind

-- the table with the name of a front
unfoldable pub noted : Table → Front → Table
noted names (Named n name) = added names name
noted names Quoted = added names (codes "quote")
noted names (Gap n) = names
noted names (Whole n x) = names
noted names (Stop n kind) = names

-- ---- all tokens, with their places

-- the place behind a byte: lines and columns count from 1, columns count bytes, and a line ends behind byte 10
abbrev pub after : Place → ℕ → Place
after p c = if c == 10 then record { file = p.file; line = p.line + 1; column = 1 } else record { file = p.file; line = p.line; column = p.column + 1 }

abbrev pub behind : Place → List ℕ → Place
behind p [] = p
behind p (c ∷ cs) = behind (after p c) cs

-- the tokens, where `more n` are those behind n bytes
abbrev pub begun : Place → Front → List ℕ → (ℕ → List Token) → List Token
begun p (Gap n) text more = more n
begun p (Whole n x) text more = token p x ∷ more n
begun p (Named n name) text more = more n
begun p Quoted text more = more 1
begun p (Stop n kind) text more = token (behind p (take n text)) (w.Broken kind) ∷ []

-- the tokens of a text at p, of which the first n bytes were taken already
unfoldable pub tokens : Table → ℕ → Place → List ℕ → List Token
tokens names n p [] = []
tokens names (suc n) p (c ∷ cs) = tokens names n (after p c) cs
tokens names zero p (c ∷ cs) = begun p (resolved names (front_of c cs)) (c ∷ cs) (λ n. tokens (noted names (front_of c cs)) (n - 1) (after p c) cs)

abbrev pub start : ℕ → Place
start file = record { file = file; line = 1; column = 1 }

-- the tokens of a text, where these names are known before
abbrev pub tokens_of : Table → ℕ → List ℕ → List Token
tokens_of names file text = tokens names 0 (start file) text

-- how many bytes a front takes; none is taken behind a breach
abbrev pub taken : Front → Option ℕ
taken (Gap n) = Some n
taken (Whole n x) = Some n
taken (Named n name) = Some n
taken Quoted = Some 1
taken (Stop n kind) = None

abbrev pub listed_by : Table → Option ℕ → (ℕ → Table) → Table
listed_by names None more = names
listed_by names (Some n) more = more n

-- the table behind a text, of which the first n bytes were taken already
unfoldable pub listed : Table → ℕ → List ℕ → Table
listed names n [] = names
listed names (suc n) (c ∷ cs) = listed names n cs
listed names zero (c ∷ cs) = listed_by (noted names (front_of c cs)) (taken (front_of c cs)) (λ n. listed (noted names (front_of c cs)) (n - 1) cs)
