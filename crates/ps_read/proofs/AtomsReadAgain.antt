-- The atoms of a text, written, read again.
-- For: written_data_read_again
use Rattle.std.proofs.Common.{◌≡◌, ℕ, zero, suc, ◌<◌, ◌≤◌, ◌+◌, ◌-◌, Bool, true, false, cond, List, [], ◌∷◌, ◌++◌, length, take, drop, Option, Some, None, refl, sym, ap, subst, ◌∙◌, append_assoc, add-zero, inl, inr, arith}
use Rattle.std.specs.Prelude.{◌⊎◌, not, ◌==◌, ◌&&◌, ◌||◌, slice_index, nat_le, nat_lt, ℤ, pos, negsuc, neg_ℤ, codes, slice_index_or}
use Rattle.std.specs.List.{flat_map, list_all, list_any}
use Rattle.std.specs.Char.{to_ascii_lowercase, digit_value}
use Rattle.std.specs.Str.{bytes_eq}
use Rattle.std.specs.Str.Parse.{AllDigits, IsNumeral, digits_value, signed_digits_value, without_leading_sign}
use Rattle.std.specs.Fmt.{decimal, signed_decimal}
use Rattle.std.proofs.lemmas.Bool.{lt-ltb, ltb-true, ltb-false, le-leb, leb-true, eqb-true}
use Rattle.std.proofs.lemmas.Fmt.{decimal_is_IsNumeral}
use Rattle.std.proofs.lemmas.Slice.Eq.{bytes_eq-Decides}
use Rattle.std.proofs.lemmas.Str.Ascii.{lowercase-lowercase}
use Rattle.std.proofs.lemmas.Str.Parse.{digit_from_value}
use Rattle.std.proofs.lemmas.List.{append-nil, length-append, take_at}
use Rattle.std.proofs.lemmas.List.Concat.{flat_map-cons}
use Rattle.std.proofs.lemmas.List.Folds.{list_all-append}
use Rattle.ps_base.specs.Names.{number_of}
use Rattle.ps_base.specs.Numbers.{is_word}
use Rattle.ps_base.specs.declared.faults.Place.{Place}
use Rattle.ps_base.specs.declared.faults.SyntaxKind.TheVariants.{WideLiteral}
use Rattle.ps_base.specs.declared.names.Name.{Name}
use Rattle.ps_datum.specs.declared.datum.Datum.{Datum}
use Rattle.ps_datum.specs.declared.datum.DatumKind.{DatumKind, out-DatumKind}
use Rattle.ps_datum.specs.declared.datum.DatumKind.TheVariants as k
use Rattle.ps_datum.specs.declared.datum.DatumKind.TheOpen.{DatumKind-F}
use Rattle.ps_datum.specs.Writing.{char_text, escaped_byte, string_text, text_node}
use Rattle.ps_datum.specs.InsideWriting.{kind_written}
use Rattle.ps_datum.proofs.Trees.{fold-boolean, fold-char, fold-integer, fold-symbol, fold-text}
use Rattle.ps_read.specs.declared.token.Token.{Token}
use Rattle.ps_read.specs.declared.token.Word.{Word}
use Rattle.ps_read.specs.declared.token.Word.TheVariants as w
use Rattle.ps_read.specs.declared.token.Front.{Front}
use Rattle.ps_read.specs.declared.token.Front.TheVariants.{Gap, Whole, Named, Quoted, Stop}
use Rattle.ps_read.specs.Grammar.{joined_by}
use Rattle.ps_read.specs.Lexical.{Table, added, added_by, after, begun, char_front, ends_here, escaped, front_of, integer_word, is_delimiter, is_digit, is_escape, is_float, is_identifier, is_initial, is_numeral, is_numeral_in, is_space, is_subsequent, listed, listed_by, marked_base, name_in, named_char, noted, number_in, number_or, resolved, run_front, run_len, run_word, small, string_from, taken, tokens, word_in}
use Rattle.ps_read.specs.Reading.{Grown}
use Rattle.ps_base.proofs.Choices.{and_left, and_rest}
use Rattle.ps_read.proofs.TablesOnlyGrow.{grown_listed}
use Rattle.ps_read.proofs.FrontsStayBeforeOthers.{Delimited, Fine, FineWord, IsAtom, is_run_byte, number_added, number_kept, run_front_is, run_whole, text_at}
use Rattle.ps_base.proofs.Choices.{or_false}

-- ---- tests

or_true : (a b : Bool) → (a || b) ≡ true → (a ≡ true) ⊎ (b ≡ true)
or_true true b h = inl refl
or_true false b h = inr h

not_true : (a : Bool) → not a ≡ true → a ≡ false
not_true true h = absurd cc
not_true false h = refl

and_no : (a b : Bool) → b ≡ false → (a && b) ≡ false
and_no true b h = h
and_no false b h = refl

true_false : (b : Bool) → b ≡ true → b ≡ false → ⊥
true_false b e f = cc

other : (c d : ℕ) → (c ≡ d → ⊥) → (c == d) ≡ false
other c d h = go (c == d) refl
  where
    go : (b : Bool) → (c == d) ≡ b → (c == d) ≡ false
    go true e = absurd (h (eqb-true c d e))
    go false e = e

-- what passes a test is none that fails it
other_than : (p : ℕ → Bool) (c d : ℕ) → p c ≡ true → p d ≡ false → (c == d) ≡ false
other_than p c d h g = other c d (λ e. true_false (p c) h (ap p e ∙ g))

-- texts that begin with different bytes
first_no : (c d : ℕ) (cs ds : List ℕ) → (c == d) ≡ false → bytes_eq (c ∷ cs) (d ∷ ds) ≡ false
first_no c d cs ds h = ap (λ (b : Bool). b && bytes_eq cs ds) h

-- ---- small letters

keeps : (p : ℕ → Bool) → ((c : ℕ) → 65 ≤ c → c ≤ 90 → p (c + 32) ≡ p c) → (c : ℕ) → p (to_ascii_lowercase c) ≡ p c
keeps p h c = go (nat_lt c 65) (nat_lt c 91) refl refl
  where
    go : (a b : Bool) → nat_lt c 65 ≡ a → nat_lt c 91 ≡ b → p (to_ascii_lowercase c) ≡ p c
    go true b e g = ap p (rw e refl)
    go false true e g = ap p (rw (e, g) refl) ∙ h c (ltb-false c 65 e) (let lt : c < 91 = ltb-true c 91 g in omega arith)
    go false false e g = ap p (rw (e, g) refl)

-- a byte that is no letter
keeps_byte : (d : ℕ) → (d < 65) ⊎ ((90 < d) × (d < 97)) → (c : ℕ) → (to_ascii_lowercase c == d) ≡ (c == d)
keeps_byte d h = keeps (λ c. c == d) (λ c lo hi. other (c + 32) d (λ e. omega arith) ∙ sym (other c d (λ e. omega arith)))

-- ---- a run that is an atom

-- before the run c ∷ cs stands nothing else
front_run : (c : ℕ) (cs : List ℕ) → is_delimiter c ≡ false → (c == 39) ≡ false → (c == 35 && slice_index cs 0 == 40) ≡ false → (c == 35 && slice_index cs 0 == 92) ≡ false → front_of c cs ≡ run_front (c ∷ cs)
unfolding front_of
front_run c cs h quote_no vector_no char_no =
    let a = or_false (is_space c || c == 40 || c == 41 || c == 34) (c == 59) h in
    let b = or_false (is_space c || c == 40 || c == 41) (c == 34) a.0 in
    let d = or_false (is_space c || c == 40) (c == 41) b.0 in
    let e = or_false (is_space c) (c == 40) d.0 in
    let space : is_space c ≡ false = e.0 in
    let e59 : (c == 59) ≡ false = a.1 in
    let e34 : (c == 34) ≡ false = b.1 in
    let e41 : (c == 41) ≡ false = d.1 in
    let e40 : (c == 40) ≡ false = e.1 in
    rw (space, e59, e40, e41, quote_no, e34, vector_no, char_no) refl

-- a run by its word, where the word leaves the table
run_atom : (names : Table) (x : DatumKind) (c : ℕ) (cs : List ℕ) → kind_written names x ≡ c ∷ cs → list_all is_run_byte (c ∷ cs) ≡ true → (c == 39) ≡ false
    → ((m : List ℕ) → Delimited m → (c == 35 && slice_index (cs ++ m) 0 == 40) ≡ false) → ((m : List ℕ) → Delimited m → (c == 35 && slice_index (cs ++ m) 0 == 92) ≡ false)
    → resolved names (run_word (suc (length cs)) (c ∷ cs)) ≡ Whole (suc (length cs)) (w.Atom x) → noted names (run_word (suc (length cs)) (c ∷ cs)) ≡ names
    → ((ds : List Datum) (t : Datum) → joined_by ds t (out-DatumKind x) ≡ k.Dotted ds t) → IsAtom names x
unfolding is_run_byte
run_atom names x c cs text all quote_no vector_no char_no word kept no_list =
    let front : (m : List ℕ) → Delimited m → front_of c (cs ++ m) ≡ run_word (suc (length cs)) (c ∷ cs) = λ m h.
    front_run c (cs ++ m) (not_true (is_delimiter c) (and_left (is_run_byte c) (list_all is_run_byte cs) all)) quote_no (vector_no m h) (char_no m h) ∙ run_front_is (c ∷ cs) m all h in
    record {
      first = c;
      others = cs;
      text = text;
      front = λ m h. ap (resolved names) (front m h) ∙ word;
      table = λ m h. ap (noted names) (front m h) ∙ kept;
      no_list = no_list;
    }

-- the same of a run that is no name
plain_atom : (names : Table) (x : DatumKind) (c : ℕ) (cs : List ℕ) → kind_written names x ≡ c ∷ cs → list_all is_run_byte (c ∷ cs) ≡ true → (c == 39) ≡ false
    → ((m : List ℕ) → Delimited m → (c == 35 && slice_index (cs ++ m) 0 == 40) ≡ false) → ((m : List ℕ) → Delimited m → (c == 35 && slice_index (cs ++ m) 0 == 92) ≡ false)
    → run_word (suc (length cs)) (c ∷ cs) ≡ Whole (suc (length cs)) (w.Atom x) → ((ds : List Datum) (t : Datum) → joined_by ds t (out-DatumKind x) ≡ k.Dotted ds t) → IsAtom names x
unfolding resolved noted
plain_atom names x c cs text all quote_no vector_no char_no word no_list = run_atom names x c cs text all quote_no vector_no char_no (ap (resolved names) word) (ap (noted names) word) no_list

-- ---- #t and #f

written_boolean : (names : Table) (b : Bool) → kind_written names (k.Boolean b) ≡ text_node names (DatumKind-F.Boolean b)
unfolding kind_written
written_boolean names b = fold-boolean (text_node names) (λ y. y.kind) b

boolean_atom : (names : Table) (b : Bool) → IsAtom names (k.Boolean b)
unfolding run_word is_run_byte
boolean_atom names true = plain_atom names (k.Boolean true) 35 (116 ∷ []) (written_boolean names true) refl refl (λ m h. refl) (λ m h. refl) refl (λ ds t. ap (joined_by ds t) (k.outs-Boolean true))
boolean_atom names false = plain_atom names (k.Boolean false) 35 (102 ∷ []) (written_boolean names false) refl refl (λ m h. refl) (λ m h. refl) refl (λ ds t. ap (joined_by ds t) (k.outs-Boolean false))

-- ---- characters

written_char : (names : Table) (c : ℕ) → kind_written names (k.Char c) ≡ char_text c
unfolding kind_written
written_char names c = fold-char (text_node names) (λ y. y.kind) c

-- a character with a name
named_atom : (names : Table) (code c d : ℕ) (name : List ℕ) → char_text code ≡ 35 ∷ 92 ∷ c ∷ d ∷ name → is_delimiter d ≡ false → list_all is_run_byte (c ∷ d ∷ name) ≡ true
    → named_char (2 + length (c ∷ d ∷ name)) (small (c ∷ d ∷ name)) ≡ Whole (suc (length (92 ∷ c ∷ d ∷ name))) (w.Atom (k.Char code)) → IsAtom names (k.Char code)
unfolding front_of char_front resolved noted
named_atom names code c d name text inside all named =
    let front : (m : List ℕ) → Delimited m → front_of 35 (92 ∷ c ∷ d ∷ name ++ m) ≡ Whole (suc (length (92 ∷ c ∷ d ∷ name))) (w.Atom (k.Char code)) = λ m h.
    ap (λ (b : Bool). cond b (Whole 3 (w.Atom (k.Char c))) (named_char (2 + run_len (c ∷ d ∷ name ++ m)) (small (take (run_len (c ∷ d ∷ name ++ m)) (c ∷ d ∷ name ++ m))))) (and_no (nat_le 32 c && nat_le c 126) (is_delimiter d) inside)
    ∙ ap (λ (i : ℕ). named_char (2 + i) (small (take i (c ∷ d ∷ name ++ m)))) (run_whole (c ∷ d ∷ name) m all h)
    ∙ ap (λ (t : List ℕ). named_char (2 + length (c ∷ d ∷ name)) (small t)) (take_at (c ∷ d ∷ name) m (length (c ∷ d ∷ name)) refl) ∙ named in
    record {
      first = 35;
      others = 92 ∷ c ∷ d ∷ name;
      text = written_char names code ∙ text;
      front = λ m h. ap (resolved names) (front m h);
      table = λ m h. ap (noted names) (front m h);
      no_list = λ ds t. ap (joined_by ds t) (k.outs-Char code);
    }

-- a character by itself
single_atom : (names : Table) (c : ℕ) → 32 ≤ c → c ≤ 126 → (c == 32) ≡ false → (c == 10) ≡ false → IsAtom names (k.Char c)
unfolding front_of char_front resolved noted
single_atom names c lo hi no_space no_line =
    let front : (m : List ℕ) → Delimited m → front_of 35 (92 ∷ c ∷ m) ≡ Whole 3 (w.Atom (k.Char c)) = λ m h. rw (le-leb 32 c lo, le-leb c 126 hi, h) refl in
    record {
      first = 35;
      others = 92 ∷ c ∷ [];
      text = written_char names c ∙ rw (no_space, no_line) refl;
      front = λ m h. ap (resolved names) (front m h);
      table = λ m h. ap (noted names) (front m h);
      no_list = λ ds t. ap (joined_by ds t) (k.outs-Char c);
    }

space_atom : (names : Table) → IsAtom names (k.Char 32)
unfolding is_run_byte
space_atom names = named_atom names 32 115 112 (codes "ace") refl refl refl refl

line_atom : (names : Table) → IsAtom names (k.Char 10)
unfolding is_run_byte
line_atom names = named_atom names 10 110 101 (codes "wline") refl refl refl refl

char_atom : (names : Table) (c : ℕ) → 32 ≤ c → c ≤ 126 → IsAtom names (k.Char c)
char_atom names c lo hi = go (c == 32) refl
  where
    go : (b : Bool) → (c == 32) ≡ b → IsAtom names (k.Char c)
    go true e = subst (λ (d : ℕ). IsAtom names (k.Char d)) (sym (eqb-true c 32 e)) (space_atom names)
    go false e = single_atom names c lo hi e (other c 10 (λ e. omega arith))

-- ---- strings

written_text : (names : Table) (bytes : List ℕ) → kind_written names (k.Text bytes) ≡ string_text bytes
unfolding kind_written
written_text names bytes = fold-text (text_node names) (λ y. y.kind) bytes

unfoldable pub no_zero : ℕ → Bool
no_zero c = not (c == 0)

Steps : ℕ → Type 0
Steps c = (at : ℕ) (done cs : List ℕ) → string_from false at done (escaped_byte c ++ cs) ≡ string_from false (at + length (escaped_byte c)) (done ++ c ∷ []) cs

steps_quote : Steps 34
unfolding Steps string_from
steps_quote at done cs = ap (λ (n : ℕ). string_from false n (done ++ 34 ∷ []) cs) (let e : at + 1 + 1 ≡ at + 2 = omega arith in e)

steps_backslash : Steps 92
unfolding Steps string_from
steps_backslash at done cs = ap (λ (n : ℕ). string_from false n (done ++ 92 ∷ []) cs) (let e : at + 1 + 1 ≡ at + 2 = omega arith in e)

step_plain : (c at : ℕ) (done cs : List ℕ) → (c == 34) ≡ false → (c == 0) ≡ false → (c == 92) ≡ false → string_from false at done (c ∷ cs) ≡ string_from false (at + 1) (done ++ c ∷ []) cs
unfolding string_from
step_plain c at done cs e z g = rw (e, z, g) refl

steps_plain : (c : ℕ) → (c == 34) ≡ false → (c == 0) ≡ false → (c == 92) ≡ false → Steps c
unfolding Steps
steps_plain c e z g at done cs =
    let plain : escaped_byte c ≡ c ∷ [] = rw (e, g) refl in
    ap (λ (t : List ℕ). string_from false at done (t ++ cs)) plain ∙ step_plain c at done cs e z g ∙ ap (λ (t : List ℕ). string_from false (at + length t) (done ++ c ∷ []) cs) (sym plain)

steps : (c : ℕ) → no_zero c ≡ true → Steps c
unfolding no_zero
steps c h = go (c == 34) (c == 92) refl refl
  where
    go : (a b : Bool) → (c == 34) ≡ a → (c == 92) ≡ b → Steps c
    go true b e g = subst Steps (sym (eqb-true c 34 e)) steps_quote
    go false true e g = subst Steps (sym (eqb-true c 92 g)) steps_backslash
    go false false e g = steps_plain c e (not_true (c == 0) h) g

pair_is : {a b : ℕ} {x y : List ℕ} → a ≡ b → x ≡ y → ◌≡◌ {A = ℕ × List ℕ} (a, x) (b, y)
pair_is e g = rw (e, g) refl

take_step : (c at : ℕ) (done cs : List ℕ) → Steps c → string_from false at done (escaped_byte c ++ cs) ≡ string_from false (at + length (escaped_byte c)) (done ++ c ∷ []) cs
unfolding Steps
take_step c at done cs h = h at done cs

string_back : (bytes : List ℕ) (at : ℕ) (done m : List ℕ) → list_all no_zero bytes ≡ true → string_from false at done (flat_map escaped_byte bytes ++ 34 ∷ m) ≡ Whole (at + length (flat_map escaped_byte bytes) + 1) (w.Atom (k.Text (done ++ bytes)))
unfolding string_from
string_back [] at done m h = ap (λ (p : ℕ × List ℕ). Whole (p.0 + 1) (w.Atom (k.Text p.1))) (pair_is (sym (add-zero at)) (sym (append-nil done)))
string_back (c ∷ cs) at done m h =
    let here = and_left (no_zero c) (list_all no_zero cs) h in
    let step : Steps c = steps c here in
    let text : flat_map escaped_byte (c ∷ cs) ≡ escaped_byte c ++ flat_map escaped_byte cs = flat_map-cons escaped_byte c cs in
    ap (λ (t : List ℕ). string_from false at done (t ++ 34 ∷ m)) text
    ∙ ap (string_from false at done) (append_assoc (escaped_byte c) (flat_map escaped_byte cs) (34 ∷ m))
    ∙ take_step c at done (flat_map escaped_byte cs ++ 34 ∷ m) step
    ∙ string_back cs (at + length (escaped_byte c)) (done ++ c ∷ []) m (and_rest (no_zero c) (list_all no_zero cs) h)
    ∙ ap (λ (p : ℕ × List ℕ). Whole (p.0 + 1) (w.Atom (k.Text p.1)))
    (pair_is (let n : at + length (escaped_byte c) + length (flat_map escaped_byte cs) ≡ at + length (flat_map escaped_byte (c ∷ cs)) = rw (text, length-append (escaped_byte c) (flat_map escaped_byte cs)) (omega arith) in n) (append_assoc done (c ∷ []) cs))

text_atom : (names : Table) (bytes : List ℕ) → list_all no_zero bytes ≡ true → IsAtom names (k.Text bytes)
unfolding front_of resolved noted
text_atom names bytes h =
    let front : (m : List ℕ) → front_of 34 ((flat_map escaped_byte bytes ++ 34 ∷ []) ++ m) ≡ Whole (suc (length (flat_map escaped_byte bytes ++ 34 ∷ []))) (w.Atom (k.Text bytes)) = λ m.
    ap (string_from false 1 []) (append_assoc (flat_map escaped_byte bytes) (34 ∷ []) m) ∙ string_back bytes 1 [] m h
    ∙ ap (λ (n : ℕ). Whole n (w.Atom (k.Text bytes))) (let e : 1 + length (flat_map escaped_byte bytes) + 1 ≡ suc (length (flat_map escaped_byte bytes ++ 34 ∷ [])) = rw (length-append (flat_map escaped_byte bytes) (34 ∷ [])) (omega arith) in e) in
    record {
      first = 34;
      others = flat_map escaped_byte bytes ++ 34 ∷ [];
      text = written_text names bytes;
      front = λ m d. ap (resolved names) (front m);
      table = λ m d. ap (noted names) (front m);
      no_list = λ ds t. ap (joined_by ds t) (k.outs-Text bytes);
    }

-- ---- integers

written_integer : (names : Table) (z : ℤ) → kind_written names (k.Integer z) ≡ signed_decimal z
unfolding kind_written
written_integer names z = fold-integer (text_node names) (λ y. y.kind) z

digits_pass : (ds : List ℕ) → AllDigits 10 ds → list_all (λ c. nat_lt (digit_value c) 10) ds ≡ true
digits_pass [] h = refl
digits_pass (c ∷ cs) h = rw (lt-ltb (digit_value c) 10 h.0, digits_pass cs h.1) refl

-- a digit is a byte of a run, and none that begins another token
digit_run : (c : ℕ) → digit_value c < 10 → is_run_byte c ≡ true
unfolding is_run_byte
digit_run c h =
    let r = digit_from_value c h in
    rw (other c 9 (λ e. omega arith), other c 10 (λ e. omega arith), other c 12 (λ e. omega arith), other c 13 (λ e. omega arith), other c 32 (λ e. omega arith), other c 40 (λ e. omega arith), other c 41 (λ e. omega arith), other c 34 (λ e. omega arith), other c 59 (λ e. omega arith)) refl

digits_run : (ds : List ℕ) → AllDigits 10 ds → list_all is_run_byte ds ≡ true
digits_run [] h = refl
digits_run (c ∷ cs) h = rw (digit_run c h.0, digits_run cs h.1) refl

integer_word_is : (run : List ℕ) (z : ℤ) → signed_digits_value 10 run ≡ z → is_word z ≡ true → integer_word 10 run ≡ w.Atom (k.Integer z)
unfolding integer_word
integer_word_is run z e h = ap (λ (y : ℤ). cond (is_word y) (w.Atom (k.Integer y)) (w.Broken WideLiteral)) e ∙ rw h refl

numeral_is : (ds : List ℕ) → IsNumeral 10 ds → is_numeral 10 ds ≡ true
unfolding is_numeral
numeral_is ds h = rw (lt-ltb 0 (length ds) h.0, digits_pass ds h.1) refl

-- the word of a run that is a numeral behind its sign
word_if_integer : (n : ℕ) (c : ℕ) (cs : List ℕ) (z : ℤ) → (c == 46) ≡ false → (c == 35) ≡ false → is_numeral 10 (without_leading_sign (c ∷ cs)) ≡ true → integer_word 10 (c ∷ cs) ≡ w.Atom (k.Integer z) → run_word n (c ∷ cs) ≡ Whole n (w.Atom (k.Integer z))
unfolding run_word
word_if_integer n c cs z not46 not35 numeral word =
    let small35 : (to_ascii_lowercase c == 35) ≡ false = keeps_byte 35 (inl (omega arith)) c ∙ not35 in
    let e : bytes_eq (c ∷ cs) (codes ".") ≡ false = first_no c 46 cs [] not46 in
    let t : bytes_eq (small (c ∷ cs)) (codes "#t") ≡ false = first_no (to_ascii_lowercase c) 35 (small cs) (116 ∷ []) small35 in
    let g : bytes_eq (small (c ∷ cs)) (codes "#f") ≡ false = first_no (to_ascii_lowercase c) 35 (small cs) (102 ∷ []) small35 in
    rw (e, t, g, numeral, word) refl

digits_atom : (names : Table) (n : ℕ) (ds : List ℕ) → decimal n ≡ ds → IsNumeral 10 ds → digits_value 10 ds ≡ n → is_word (pos n) ≡ true → IsAtom names (k.Integer (pos n))
digits_atom names n [] text d value fits = absurd (omega (arith, d.0))
digits_atom names n (c ∷ cs) text d value fits =
    let r = digit_from_value c d.1.0 in
    let not35 : (c == 35) ≡ false = other c 35 (λ e. omega arith) in
    let not43 : (c == 43) ≡ false = other c 43 (λ e. omega arith) in
    let not45 : (c == 45) ≡ false = other c 45 (λ e. omega arith) in
    let whole : without_leading_sign (c ∷ cs) ≡ c ∷ cs = rw (not45, not43) refl in
    let is : signed_digits_value 10 (c ∷ cs) ≡ pos n = rw (not45, not43) (ap pos value) in
    plain_atom names (k.Integer (pos n)) c cs (written_integer names (pos n) ∙ text) (digits_run (c ∷ cs) d.1) (other c 39 (λ e. omega arith)) (λ m h. rw not35 refl) (λ m h. rw not35 refl)
    (word_if_integer (suc (length cs)) c cs (pos n) (other c 46 (λ e. omega arith)) not35 (ap (is_numeral 10) whole ∙ numeral_is (c ∷ cs) d) (integer_word_is (c ∷ cs) (pos n) is fits)) (λ ds t. ap (joined_by ds t) (k.outs-Integer (pos n)))

minus_atom : (names : Table) (n : ℕ) → is_word (negsuc n) ≡ true → IsAtom names (k.Integer (negsuc n))
unfolding is_run_byte
minus_atom names n fits =
    let lt : n < 9223372036854775808 = ltb-true n 9223372036854775808 fits in
    let d = decimal_is_IsNumeral (suc n) (omega arith) in
    plain_atom names (k.Integer (negsuc n)) 45 (decimal (suc n)) (written_integer names (negsuc n)) (digits_run (decimal (suc n)) d.0.1) refl (λ m h. refl) (λ m h. refl)
    (word_if_integer (suc (length (decimal (suc n)))) 45 (decimal (suc n)) (negsuc n) refl refl (numeral_is (decimal (suc n)) d.0) (integer_word_is (45 ∷ decimal (suc n)) (negsuc n) (ap (λ (m : ℕ). neg_ℤ (pos m)) d.1) fits)) (λ ds t. ap (joined_by ds t) (k.outs-Integer (negsuc n)))

integer_atom : (names : Table) (z : ℤ) → is_word z ≡ true → IsAtom names (k.Integer z)
integer_atom names (pos n) fits =
    let lt : n < 9223372036854775808 = ltb-true n 9223372036854775808 fits in
    let d = decimal_is_IsNumeral n (omega arith) in
    digits_atom names n (decimal n) refl d.0 d.1 fits
integer_atom names (negsuc n) fits = minus_atom names n fits

fine_test : (names : Table) (b : Bool) (x y : Word) → (b ≡ true → FineWord names x) → (b ≡ false → FineWord names y) → FineWord names (cond b x y)
fine_test names true x y first second = first refl
fine_test names false x y first second = second refl

fine_integer : (names : Table) (base : ℕ) (run : List ℕ) → FineWord names (integer_word base run)
unfolding integer_word
fine_integer names base run = fine_test names (is_word (signed_digits_value base run)) _ _ (λ h. integer_atom names (signed_digits_value base run) h) (λ _. tt)

-- ---- names

-- what an identifier may be
data Identifier : List ℕ → Type 0 where
  plus : Identifier (43 ∷ [])
  minus : Identifier (45 ∷ [])
  dots : Identifier (46 ∷ 46 ∷ 46 ∷ [])
  arrow : (cs : List ℕ) → list_all is_subsequent cs ≡ true → Identifier (45 ∷ 62 ∷ cs)
  initial : (c : ℕ) (cs : List ℕ) → is_initial c ≡ true → list_all is_subsequent cs ≡ true → Identifier (c ∷ cs)

same_bytes : (xs ys : List ℕ) → bytes_eq xs ys ≡ true → xs ≡ ys
same_bytes xs ys h = (bytes_eq-Decides xs ys).0 h

arrow_of : (name : List ℕ) → take 2 name ≡ 45 ∷ 62 ∷ [] → list_all is_subsequent (drop 2 name) ≡ true → Identifier name
arrow_of [] h all = absurd cc
arrow_of (c ∷ []) h all = absurd cc
arrow_of (c ∷ d ∷ cs) h all = let e : c ≡ 45 = cc in let g : d ≡ 62 = cc in subst (λ (x : ℕ). Identifier (x ∷ d ∷ cs)) (sym e) (subst (λ (x : ℕ). Identifier (45 ∷ x ∷ cs)) (sym g) (arrow cs all))

initial_of : (name : List ℕ) → is_initial (slice_index name 0) ≡ true → list_all is_subsequent (drop 1 name) ≡ true → Identifier name
initial_of [] h all = absurd cc
initial_of (c ∷ cs) h all = initial c cs h all

identifier_of : (name : List ℕ) → is_identifier name ≡ true → Identifier name
unfolding is_identifier
identifier_of name h =
    elim (or_true (bytes_eq name (codes "+") || bytes_eq name (codes "-") || bytes_eq name (codes "...") || (bytes_eq (take 2 name) (codes "->") && list_all is_subsequent (drop 2 name))) (is_initial (slice_index name 0) && list_all is_subsequent (drop 1 name)) h) [
      | inr i ↦ initial_of name (and_left (is_initial (slice_index name 0)) (list_all is_subsequent (drop 1 name)) i) (and_rest (is_initial (slice_index name 0)) (list_all is_subsequent (drop 1 name)) i)
      | inl a ↦ elim (or_true (bytes_eq name (codes "+") || bytes_eq name (codes "-") || bytes_eq name (codes "...")) (bytes_eq (take 2 name) (codes "->") && list_all is_subsequent (drop 2 name)) a) [
        | inr j ↦ arrow_of name (same_bytes (take 2 name) (codes "->") (and_left (bytes_eq (take 2 name) (codes "->")) (list_all is_subsequent (drop 2 name)) j)) (and_rest (bytes_eq (take 2 name) (codes "->")) (list_all is_subsequent (drop 2 name)) j)
        | inl b ↦ elim (or_true (bytes_eq name (codes "+") || bytes_eq name (codes "-")) (bytes_eq name (codes "...")) b) [
          | inr d ↦ subst Identifier (sym (same_bytes name (codes "...") d)) dots
          | inl e ↦ elim (or_true (bytes_eq name (codes "+")) (bytes_eq name (codes "-")) e) [
            | inr m ↦ subst Identifier (sym (same_bytes name (codes "-") m)) minus
            | inl p ↦ subst Identifier (sym (same_bytes name (codes "+") p)) plus
          ]
        ]
      ]
    ]

-- ---- the bytes of a name

subsequent_run : (c : ℕ) → is_subsequent c ≡ true → is_run_byte c ≡ true
unfolding is_run_byte
subsequent_run c h =
    rw (other_than is_subsequent c 9 h refl, other_than is_subsequent c 10 h refl, other_than is_subsequent c 12 h refl, other_than is_subsequent c 13 h refl, other_than is_subsequent c 32 h refl, other_than is_subsequent c 40 h refl, other_than is_subsequent c 41 h refl, other_than is_subsequent c 34 h refl, other_than is_subsequent c 59 h refl) refl

subsequents_run : (cs : List ℕ) → list_all is_subsequent cs ≡ true → list_all is_run_byte cs ≡ true
subsequents_run [] h = refl
subsequents_run (c ∷ cs) h = rw (subsequent_run c (and_left (is_subsequent c) (list_all is_subsequent cs) h), subsequents_run cs (and_rest (is_subsequent c) (list_all is_subsequent cs) h)) refl

initial_run : (c : ℕ) → is_initial c ≡ true → is_run_byte c ≡ true
initial_run c h = subsequent_run c (ap (λ (b : Bool). b || is_digit c || list_any (λ x. x == c) (codes "+-.@")) h)

above_no : (a b : ℕ) → b < a → nat_le a b ≡ false
above_no a b lt = go (nat_le a b) refl
  where
    go : (x : Bool) → nat_le a b ≡ x → x ≡ false
    go true e = absurd (let le : a ≤ b = leb-true a b e in omega arith)
    go false e = refl

no_initial : (c : ℕ) → 48 ≤ c → c ≤ 57 → is_initial c ≡ false
no_initial c lo hi =
    let letter : nat_le 97 c ≡ false = above_no 97 c (omega arith) in
    rw (letter, other 33 c (λ e. omega arith), other 36 c (λ e. omega arith), other 37 c (λ e. omega arith), other 38 c (λ e. omega arith), other 42 c (λ e. omega arith), other 47 c (λ e. omega arith), other 58 c (λ e. omega arith), other 60 c (λ e. omega arith), other 61 c (λ e. omega arith), other 62 c (λ e. omega arith), other 63 c (λ e. omega arith), other 94 c (λ e. omega arith), other 95 c (λ e. omega arith), other 126 c (λ e. omega arith)) refl

no_digit : (c : ℕ) → is_initial c ≡ true → nat_lt (digit_value c) 10 ≡ false
no_digit c h = go (nat_lt (digit_value c) 10) refl
  where
    go : (b : Bool) → nat_lt (digit_value c) 10 ≡ b → b ≡ false
    go true e = let r = digit_from_value c (ltb-true (digit_value c) 10 e) in absurd (true_false (is_initial c) h (no_initial c r.0 r.1))
    go false e = refl

no_numeral : (c : ℕ) (cs : List ℕ) → nat_lt (digit_value c) 10 ≡ false → is_numeral 10 (c ∷ cs) ≡ false
unfolding is_numeral
no_numeral c cs h = and_no (nat_lt 0 (length (c ∷ cs))) (nat_lt (digit_value c) 10 && list_all (λ d. nat_lt (digit_value d) 10) cs) (ap (λ (b : Bool). b && list_all (λ d. nat_lt (digit_value d) 10) cs) h)

-- ---- symbols

written_symbol : (names : Table) (n : Name) → kind_written names (k.Symbol n) ≡ slice_index_or names n.0 []
unfolding kind_written
written_symbol names n = fold-symbol (text_node names) (λ y. y.kind) n

-- a name by its number in the table
resolved_name : (names : Table) (n : Name) (len : ℕ) (name : List ℕ) → number_of names name ≡ Some n.0 → resolved names (Named len name) ≡ Whole len (w.Atom (k.Symbol n))
unfolding resolved
resolved_name names n len name h = ap (λ (o : Option ℕ). Whole len (w.Atom (k.Symbol (record { 0 = number_or (length names) o })))) h

noted_name : (names : Table) (n : Name) (len : ℕ) (name : List ℕ) → number_of names name ≡ Some n.0 → noted names (Named len name) ≡ names
unfolding noted
noted_name names n len name h = ap (added_by names name) h

word_if_named : (len c : ℕ) (cs : List ℕ) → bytes_eq (c ∷ cs) (codes ".") ≡ false → (c == 35) ≡ false → is_numeral 10 (without_leading_sign (c ∷ cs)) ≡ false → is_identifier (c ∷ cs) ≡ true → small (c ∷ cs) ≡ c ∷ cs
    → run_word len (c ∷ cs) ≡ Named len (c ∷ cs)
unfolding run_word
word_if_named len c cs no_dot not35 numeral is same =
    let small35 : (to_ascii_lowercase c == 35) ≡ false = keeps_byte 35 (inl (omega arith)) c ∙ not35 in
    let t : bytes_eq (small (c ∷ cs)) (codes "#t") ≡ false = first_no (to_ascii_lowercase c) 35 (small cs) (116 ∷ []) small35 in
    let g : bytes_eq (small (c ∷ cs)) (codes "#f") ≡ false = first_no (to_ascii_lowercase c) 35 (small cs) (102 ∷ []) small35 in
    let m : is_numeral_in (marked_base (c ∷ cs)) (c ∷ cs) ≡ false = rw not35 refl in
    let i : is_identifier (small (c ∷ cs)) ≡ true = ap is_identifier same ∙ is in
    rw (no_dot, t, g, numeral, m, i) (ap (Named len) same)

symbol_by : (names : Table) (n : Name) (c : ℕ) (cs : List ℕ) → number_of names (c ∷ cs) ≡ Some n.0 → is_identifier (c ∷ cs) ≡ true → small (c ∷ cs) ≡ c ∷ cs → list_all is_run_byte (c ∷ cs) ≡ true
    → (c == 39) ≡ false → (c == 35) ≡ false → bytes_eq (c ∷ cs) (codes ".") ≡ false → is_numeral 10 (without_leading_sign (c ∷ cs)) ≡ false → IsAtom names (k.Symbol n)
symbol_by names n c cs numbered is same all not39 not35 no_dot numeral =
    let word = word_if_named (suc (length cs)) c cs no_dot not35 numeral is same in
    run_atom names (k.Symbol n) c cs (written_symbol names n ∙ text_at names (c ∷ cs) n.0 numbered) all not39 (λ m h. rw not35 refl) (λ m h. rw not35 refl)
    (ap (resolved names) word ∙ resolved_name names n (suc (length cs)) (c ∷ cs) numbered) (ap (noted names) word ∙ noted_name names n (suc (length cs)) (c ∷ cs) numbered)
    (λ ds t. ap (joined_by ds t) (k.outs-Symbol n))

symbol_of : (names : Table) (n : Name) (name : List ℕ) → Identifier name → number_of names name ≡ Some n.0 → is_identifier name ≡ true → small name ≡ name → IsAtom names (k.Symbol n)
unfolding is_run_byte is_numeral
symbol_of names n _ plus numbered is same = symbol_by names n 43 [] numbered is same refl refl refl refl refl
symbol_of names n _ minus numbered is same = symbol_by names n 45 [] numbered is same refl refl refl refl refl
symbol_of names n _ dots numbered is same = symbol_by names n 46 (46 ∷ 46 ∷ []) numbered is same refl refl refl refl refl
symbol_of names n _ (arrow cs all) numbered is same = symbol_by names n 45 (62 ∷ cs) numbered is same (subsequents_run cs all) refl refl refl (no_numeral 62 cs refl)
symbol_of names n _ (initial c cs first all) numbered is same =
    let not43 : (c == 43) ≡ false = other_than is_initial c 43 first refl in
    let not45 : (c == 45) ≡ false = other_than is_initial c 45 first refl in
    let whole : without_leading_sign (c ∷ cs) ≡ c ∷ cs = rw (not45, not43) refl in
    symbol_by names n c cs numbered is same (rw (initial_run c first, subsequents_run cs all) refl) (other_than is_initial c 39 first refl) (other_than is_initial c 35 first refl) (first_no c 46 cs [] (other_than is_initial c 46 first refl))
    (ap (is_numeral 10) whole ∙ no_numeral c cs (no_digit c first))

symbol_atom : (names : Table) (n : Name) (name : List ℕ) → number_of names name ≡ Some n.0 → is_identifier name ≡ true → small name ≡ name → IsAtom names (k.Symbol n)
symbol_atom names n name numbered is same = symbol_of names n name (identifier_of name is) numbered is same

-- ---- the fronts of a text

-- an atom, over each table, or a name
abbrev FineFront : Front → Type 0
FineFront (Gap n) = Unit {0}
FineFront (Whole n x) = (names : Table) → FineWord names x
FineFront (Named n name) = (is_identifier name ≡ true) × (small name ≡ name)
FineFront Quoted = Unit {0}
FineFront (Stop n kind) = Unit {0}

front_test : (b : Bool) (x y : Front) → (b ≡ true → FineFront x) → (b ≡ false → FineFront y) → FineFront (cond b x y)
front_test true x y first second = first refl
front_test false x y first second = second refl

small_twice : (cs : List ℕ) → small (small cs) ≡ small cs
small_twice [] = refl
small_twice (c ∷ cs) = ap (λ (d : ℕ). d ∷ small (small cs)) (lowercase-lowercase c) ∙ ap (λ (ds : List ℕ). to_ascii_lowercase c ∷ ds) (small_twice cs)

fine_in : (names : Table) (base : Option ℕ) (run : List ℕ) → FineWord names (word_in base run)
fine_in names None run = tt
fine_in names (Some base) run = fine_integer names base (drop 2 run)

fine_run : (n : ℕ) (run : List ℕ) → FineFront (run_word n run)
unfolding run_word
fine_run n run =
    front_test (bytes_eq run (codes ".")) _ _ (λ _ names. tt) (λ _.
    front_test (bytes_eq (small run) (codes "#t")) _ _ (λ _ names. boolean_atom names true) (λ _.
    front_test (bytes_eq (small run) (codes "#f")) _ _ (λ _ names. boolean_atom names false) (λ _.
    front_test (is_numeral 10 (without_leading_sign run)) _ _ (λ _ names. fine_integer names 10 run) (λ _.
    front_test (is_numeral_in (marked_base run) run) _ _ (λ _ names. fine_in names (marked_base run) run) (λ _.
    front_test (is_identifier (small run)) _ _ (λ h. (h, small_twice run)) (λ _.
    front_test (is_float run) _ _ (λ _ names. tt) (λ _ names. tt)))))))

fine_named_char : (n : ℕ) (name : List ℕ) → FineFront (named_char n name)
fine_named_char n name =
    front_test (bytes_eq name (codes "space")) _ _ (λ _ names. space_atom names) (λ _.
    front_test (bytes_eq name (codes "newline")) _ _ (λ _ names. line_atom names) (λ _. tt))

fine_char : (cs : List ℕ) → FineFront (char_front cs)
unfolding char_front
fine_char [] = tt
fine_char (c ∷ cs) =
    front_test (nat_le 32 c && nat_le c 126 && ends_here cs) _ _ (λ h names.
    let both = and_left (nat_le 32 c && nat_le c 126) (ends_here cs) h in
    char_atom names c (leb-true 32 c (and_left (nat_le 32 c) (nat_le c 126) both)) (leb-true c 126 (and_rest (nat_le 32 c) (nat_le c 126) both))) (λ _. fine_named_char (2 + run_len (c ∷ cs)) (small (take (run_len (c ∷ cs)) (c ∷ cs))))

zero_no : (c : ℕ) → (c == 0) ≡ false → no_zero c ≡ true
unfolding no_zero
zero_no c h = rw h refl

more_no_zero : (done : List ℕ) (c : ℕ) → list_all no_zero done ≡ true → no_zero c ≡ true → list_all no_zero (done ++ c ∷ []) ≡ true
more_no_zero done c h e = rw (list_all-append no_zero done (c ∷ []), h, e) refl

escape_no_zero : (c : ℕ) → is_escape c ≡ true → no_zero (escaped c) ≡ true
unfolding no_zero
escape_no_zero zero h = absurd cc
escape_no_zero (suc n) h = go (suc n == 110)
  where
    go : (b : Bool) → not (cond b 10 (suc n) == 0) ≡ true
    go true = refl
    go false = ap not (other (suc n) 0 (λ e. omega arith))

fine_string : (is_escaped : Bool) (at : ℕ) (done cs : List ℕ) → list_all no_zero done ≡ true → FineFront (string_from is_escaped at done cs)
unfolding string_from
fine_string true at done [] h = tt
fine_string false at done [] h = tt
fine_string true at done (c ∷ cs) h =
    front_test (is_escape c) _ _ (λ e. fine_string false (at + 1) (done ++ escaped c ∷ []) cs (more_no_zero done (escaped c) h (escape_no_zero c e))) (λ _. tt)
fine_string false at done (c ∷ cs) h =
    front_test (c == 34) _ _ (λ _ names. text_atom names done h) (λ _.
    front_test (c == 0) _ _ (λ _. tt) (λ z.
    front_test (c == 92) _ _ (λ _. fine_string true (at + 1) done cs h) (λ _. fine_string false (at + 1) (done ++ c ∷ []) cs (more_no_zero done c h (zero_no c z)))))

fine_front : (c : ℕ) (cs : List ℕ) → FineFront (front_of c cs)
unfolding front_of
fine_front c cs =
    front_test (is_space c) _ _ (λ _. tt) (λ _.
    front_test (c == 59) _ _ (λ _. tt) (λ _.
    front_test (c == 40) _ _ (λ _ names. tt) (λ _.
    front_test (c == 41) _ _ (λ _ names. tt) (λ _.
    front_test (c == 39) _ _ (λ _. tt) (λ _.
    front_test (c == 34) _ _ (λ _. fine_string false 1 [] cs refl) (λ _.
    front_test (c == 35 && slice_index cs 0 == 40) _ _ (λ _ names. tt) (λ _.
    front_test (c == 35 && slice_index cs 0 == 92) _ _ (λ _. fine_char (drop 1 cs)) (λ _.
    fine_run (run_len (c ∷ cs)) (take (run_len (c ∷ cs)) (c ∷ cs))))))))))

-- ---- all tokens of a text

-- a name keeps its number in each table that has grown since
name_number : (names t : Table) (name : List ℕ) → Grown (added t name) names → number_of names name ≡ Some (number_in t name)
name_number names t name g = ap (λ (u : Table). number_of u name) g.is ∙ number_kept (added t name) g.more name (number_in t name) (number_added t name)

fine_name : (names t : Table) (name : List ℕ) (more : Table) → is_identifier name ≡ true → small name ≡ name → Grown (added t name) more → more ≡ names → IsAtom names (k.Symbol (name_in t name))
fine_name names t name more is same g e = symbol_atom names (name_in t name) name (name_number names t name (subst (Grown (added t name)) e g)) is same

quote_is : is_identifier (codes "quote") ≡ true
unfolding is_identifier
quote_is = refl

-- a front's token and those behind it, where `names` is the table behind the text
fine_begun : (names t : Table) (p : Place) (f : Front) (text : List ℕ) (rest : ℕ → List Token) (more : ℕ → Table) → FineFront f → listed_by (noted t f) (taken f) more ≡ names → ((n : ℕ) → Grown (noted t f) (more n))
    → ((n : ℕ) → more n ≡ names → Fine names (rest n)) → Fine names (begun p (resolved t f) text rest)
unfolding Fine resolved noted
fine_begun names t p (Gap n) text rest more h e g others = others n e
fine_begun names t p (Whole n x) text rest more h e g others = (h names, others n e)
fine_begun names t p (Named n name) text rest more h e g others = (fine_name names t name (more n) h.0 h.1 (g n) e, others n e)
fine_begun names t p Quoted text rest more h e g others = (fine_name names t (codes "quote") (more 1) quote_is refl (g 1) e, others 1 e)
fine_begun names t p (Stop n kind) text rest more h e g others = (tt, tt)

-- each atom of a text is one over the table behind the text
pub fine_tokens : (names t : Table) (n : ℕ) (p : Place) (text : List ℕ) → listed t n text ≡ names → Fine names (tokens t n p text)
unfolding Fine tokens listed
fine_tokens names t n p [] e = tt
fine_tokens names t (suc n) p (c ∷ cs) e = fine_tokens names t n (after p c) cs e
fine_tokens names t zero p (c ∷ cs) e =
    let u = noted t (front_of c cs) in
    fine_begun names t p (front_of c cs) (c ∷ cs) (λ n. tokens (noted t (front_of c cs)) (n - 1) (after p c) cs) (λ n. listed (noted t (front_of c cs)) (n - 1) cs) (fine_front c cs) e
    (λ n. grown_listed (noted t (front_of c cs)) (n - 1) cs) (λ n. fine_tokens names (noted t (front_of c cs)) (n - 1) (after p c) cs)
