-- The tokens of a text have no names but those of the table behind it, and are no more than its bytes.
-- For: read_all (small, known)
use Rattle.std.proofs.Common.{◌≡◌, ℕ, zero, suc, ◌+◌, ◌-◌, ◌<◌, ◌≤◌, Bool, true, false, cond, List, [], ◌∷◌, ◌++◌, length, drop, take, refl, ◌∙◌, arith}
use Rattle.std.specs.Prelude.{Option, Some, None, codes, ◌==◌, ◌&&◌, nat_le, slice_index}
use Rattle.std.specs.Str.{bytes_eq}
use Rattle.std.specs.Str.Parse.{without_leading_sign, signed_digits_value}
use Rattle.std.proofs.lemmas.Bool.{lt-ltb}
use Rattle.std.proofs.lemmas.List.{length-append}
use Rattle.std.specs.Prelude.{slice_get}
use Rattle.ps_base.specs.Names.{number_of}
use Rattle.ps_base.specs.Numbers.{is_word}
use Rattle.ps_base.specs.declared.faults.Place.{Place}
use Rattle.ps_datum.specs.declared.datum.DatumKind.TheVariants as k
use Rattle.ps_datum.specs.Weight.{weight_node}
use Rattle.ps_datum.specs.Writing.{known_node}
use Rattle.ps_datum.proofs.Trees.{fold-boolean, fold-integer, fold-char, fold-text, fold-symbol}
use Rattle.ps_read.specs.declared.token.Token.{Token}
use Rattle.ps_read.specs.declared.token.Word.{Word}
use Rattle.ps_read.specs.declared.token.Word.TheVariants as w
use Rattle.ps_read.specs.declared.token.Front.{Front}
use Rattle.ps_read.specs.declared.token.Front.TheVariants.{Gap, Whole, Named, Quoted, Stop}
use Rattle.ps_read.specs.Lexical.{Table, added, added_by, after, begun, char_front, ends_here, escaped, front_of, integer_word, is_escape, is_float, is_identifier, is_numeral, is_numeral_in, is_space, listed, listed_by, marked_base, name_in, noted, number_in, number_or, resolved, run_len, run_word, small, string_from, taken, tokens, word_in}
use Rattle.ps_read.proofs.DataAreSmallAndKnown.{WordFits, TokensFit}
use Rattle.ps_read.proofs.AddedNamesAreNumbered.{stands}

-- ---- what a front says of names

-- the word is right with any table
Plain : Word → Type 0
Plain x = (names : Table) → WordFits names x

FrontFits : Front → Type 0
FrontFits (Gap n) = Unit {0}
FrontFits (Whole n x) = Plain x
FrontFits (Named n name) = Unit {0}
FrontFits Quoted = Unit {0}
FrontFits (Stop n kind) = Unit {0}

fits_either : (b : Bool) (f g : Front) → FrontFits f → FrontFits g → FrontFits (cond b f g)
fits_either true f g h e = h
fits_either false f g h e = e

plain_either : (b : Bool) (x y : Word) → Plain x → Plain y → Plain (cond b x y)
plain_either true x y h e = h
plain_either false x y h e = e

boolean_plain : (b : Bool) → Plain (w.Atom (k.Boolean b))
unfolding Plain WordFits
boolean_plain b = λ names. (fold-boolean weight_node (λ d. d.kind) b, fold-boolean (known_node names) (λ d. d.kind) b)

char_plain : (c : ℕ) → Plain (w.Atom (k.Char c))
unfolding Plain WordFits
char_plain c = λ names. (fold-char weight_node (λ d. d.kind) c, fold-char (known_node names) (λ d. d.kind) c)

text_plain : (bytes : List ℕ) → Plain (w.Atom (k.Text bytes))
unfolding Plain WordFits
text_plain bytes = λ names. (fold-text weight_node (λ d. d.kind) bytes, fold-text (known_node names) (λ d. d.kind) bytes)

integer_plain : (base : ℕ) (run : List ℕ) → Plain (integer_word base run)
unfolding integer_word Plain WordFits
integer_plain base run =
    plain_either (is_word (signed_digits_value base run)) _ _
    (λ names. (fold-integer weight_node (λ d. d.kind) (signed_digits_value base run), fold-integer (known_node names) (λ d. d.kind) (signed_digits_value base run)))
    (λ names. tt)

marked_plain : (base : Option ℕ) (run : List ℕ) → Plain (word_in base run)
unfolding Plain WordFits
marked_plain None run = λ names. tt
marked_plain (Some base) run = integer_plain base (drop 2 run)

run_fits : (n : ℕ) (run : List ℕ) → FrontFits (run_word n run)
unfolding run_word FrontFits Plain WordFits
run_fits n run =
    fits_either (bytes_eq run (codes ".")) _ _ (λ names. tt)
    (fits_either (bytes_eq (small run) (codes "#t")) _ _ (boolean_plain true)
    (fits_either (bytes_eq (small run) (codes "#f")) _ _ (boolean_plain false)
    (fits_either (is_numeral 10 (without_leading_sign run)) _ _ (integer_plain 10 run)
    (fits_either (is_numeral_in (marked_base run) run) _ _ (marked_plain (marked_base run) run)
    (fits_either (is_identifier (small run)) _ _ tt
    (fits_either (is_float run) _ _ (λ names. tt) (λ names. tt)))))))

char_fits : (cs : List ℕ) → FrontFits (char_front cs)
unfolding char_front FrontFits
char_fits [] = tt
char_fits (c ∷ cs) =
    fits_either (nat_le 32 c && nat_le c 126 && ends_here cs) _ _ (char_plain c)
    (fits_either (bytes_eq (small (take (run_len (c ∷ cs)) (c ∷ cs))) (codes "space")) _ _ (char_plain 32)
    (fits_either (bytes_eq (small (take (run_len (c ∷ cs)) (c ∷ cs))) (codes "newline")) _ _ (char_plain 10) tt))

string_fits : (is_escaped : Bool) (at : ℕ) (done cs : List ℕ) → FrontFits (string_from is_escaped at done cs)
unfolding string_from FrontFits
string_fits true at done [] = tt
string_fits false at done [] = tt
string_fits true at done (c ∷ cs) = fits_either (is_escape c) _ _ (string_fits false (at + 1) (done ++ escaped c ∷ []) cs) tt
string_fits false at done (c ∷ cs) =
    fits_either (c == 34) _ _ (text_plain done)
    (fits_either (c == 0) _ _ tt
    (fits_either (c == 92) _ _ (string_fits true (at + 1) done cs) (string_fits false (at + 1) (done ++ c ∷ []) cs)))

front_fits : (c : ℕ) (cs : List ℕ) → FrontFits (front_of c cs)
unfolding front_of FrontFits Plain WordFits
front_fits c cs =
    fits_either (is_space c) _ _ tt
    (fits_either (c == 59) _ _ tt
    (fits_either (c == 40) _ _ (λ names. tt)
    (fits_either (c == 41) _ _ (λ names. tt)
    (fits_either (c == 39) _ _ tt
    (fits_either (c == 34) _ _ (string_fits false 1 [] cs)
    (fits_either (c == 35 && slice_index cs 0 == 40) _ _ (λ names. tt)
    (fits_either (c == 35 && slice_index cs 0 == 92) _ _ (char_fits (drop 1 cs)) (run_fits (run_len (c ∷ cs)) (take (run_len (c ∷ cs)) (c ∷ cs))))))))))

-- ---- a table only grows

get_within : (names : Table) (n : ℕ) (text : List ℕ) → slice_get names n ≡ Some text → n < length names
get_within [] zero text e = cc
get_within [] (suc n) text e = cc
get_within (t ∷ names) zero text e = omega arith
get_within (t ∷ names) (suc n) text e = omega (arith, get_within names n text e)

within_table : (names : Table) (n : ℕ) (text : List ℕ) → number_of names text ≡ Some n → n < length names
within_table names n text e = get_within names n text (stands names text n e)

number_within : (names : Table) (name : List ℕ) → number_in names name < length (added names name)
number_within names name = go (number_of names name) refl
  where
    go : (o : Option ℕ) → number_of names name ≡ o → number_or (length names) o < length (added_by names name o)
    go None e = omega (arith, length-append names (name ∷ []))
    go (Some n) e = within_table names n name e

added_grows : (names : Table) (name : List ℕ) → length names ≤ length (added names name)
added_grows names name = go (number_of names name)
  where
    go : (o : Option ℕ) → length names ≤ length (added_by names name o)
    go None = omega (arith, length-append names (name ∷ []))
    go (Some n) = omega arith

noted_grows : (names : Table) (f : Front) → length names ≤ length (noted names f)
unfolding noted
noted_grows names (Gap n) = omega arith
noted_grows names (Whole n x) = omega arith
noted_grows names (Named n name) = added_grows names name
noted_grows names Quoted = added_grows names (codes "quote")
noted_grows names (Stop n kind) = omega arith

listed_grows : (names : Table) (n : ℕ) (text : List ℕ) → length names ≤ length (listed names n text)
unfolding listed
listed_grows names n [] = omega arith
listed_grows names (suc n) (c ∷ cs) = listed_grows names n cs
listed_grows names zero (c ∷ cs) =
    go (taken (front_of c cs)) (λ n. listed_grows (noted names (front_of c cs)) n cs)
  where
    go : (o : Option ℕ) → ((n : ℕ) → length (noted names (front_of c cs)) ≤ length (listed (noted names (front_of c cs)) n cs))
        → length names ≤ length (listed_by (noted names (front_of c cs)) o (λ n. listed (noted names (front_of c cs)) (n - 1) cs))
    go None ih = noted_grows names (front_of c cs)
    go (Some n) ih = omega (arith, noted_grows names (front_of c cs), ih (n - 1))

-- ---- all tokens

symbol_fits : (names behind : Table) (name : List ℕ) → length (added names name) ≤ length behind → WordFits behind (w.Atom (k.Symbol (name_in names name)))
unfolding WordFits
symbol_fits names behind name le = (
  fold-symbol weight_node (λ d. d.kind) (name_in names name),
  fold-symbol (known_node behind) (λ d. d.kind) (name_in names name) ∙ lt-ltb (number_in names name) (length behind) (omega (arith, number_within names name)),
)

begun_fits : (names : Table) (p : Place) (c : ℕ) (cs : List ℕ) (f : Front) → FrontFits f → ((table : Table) (n : ℕ) (q : Place) → TokensFit (listed table n cs) (tokens table n q cs))
    → TokensFit (listed_by (noted names f) (taken f) (λ n. listed (noted names f) (n - 1) cs)) (begun p (resolved names f) (c ∷ cs) (λ n. tokens (noted names f) (n - 1) (after p c) cs))
unfolding noted resolved FrontFits Plain WordFits
begun_fits names p c cs (Gap n) h ih = ih names (n - 1) (after p c)
begun_fits names p c cs (Whole n x) h ih = (h (listed names (n - 1) cs), ih names (n - 1) (after p c))
begun_fits names p c cs (Named n name) h ih =
    (symbol_fits names (listed (added names name) (n - 1) cs) name (listed_grows (added names name) (n - 1) cs), ih (added names name) (n - 1) (after p c))
begun_fits names p c cs Quoted h ih =
    (omega (arith, number_within names (codes "quote"), listed_grows (added names (codes "quote")) (1 - 1) cs), ih (added names (codes "quote")) (1 - 1) (after p c))
begun_fits names p c cs (Stop n kind) h ih = (tt, tt)

pub tokens_fit : (names : Table) (n : ℕ) (p : Place) (text : List ℕ) → TokensFit (listed names n text) (tokens names n p text)
unfolding listed tokens
tokens_fit names n p [] = tt
tokens_fit names (suc n) p (c ∷ cs) = tokens_fit names n (after p c) cs
tokens_fit names zero p (c ∷ cs) = begun_fits names p c cs (front_of c cs) (front_fits c cs) (λ table n q. tokens_fit table n q cs)

begun_few : (p : Place) (c : ℕ) (cs : List ℕ) (f : Front) (more : ℕ → List Token) → ((n : ℕ) → length (more n) ≤ length cs) → length (begun p f (c ∷ cs) more) ≤ suc (length cs)
begun_few p c cs (Gap n) more h = omega (arith, h n)
begun_few p c cs (Whole n x) more h = omega (arith, h n)
begun_few p c cs (Named n name) more h = omega (arith, h n)
begun_few p c cs Quoted more h = omega (arith, h 1)
begun_few p c cs (Stop n kind) more h = omega arith

pub few_tokens : (names : Table) (n : ℕ) (p : Place) (text : List ℕ) → length (tokens names n p text) ≤ length text
unfolding tokens
few_tokens names n p [] = omega arith
few_tokens names (suc n) p (c ∷ cs) = omega (arith, few_tokens names n (after p c) cs)
few_tokens names zero p (c ∷ cs) = begun_few p c cs (resolved names (front_of c cs)) _ (λ n. few_tokens (noted names (front_of c cs)) (n - 1) (after p c) cs)
