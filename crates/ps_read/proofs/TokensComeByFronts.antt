-- Tokens of a text, front by front.
-- For: next_front, step, read_text
use Rattle.std.proofs.Common.{subst, ◌≡◌, ℕ, zero, suc, ◌<◌, ◌≤◌, ◌+◌, ◌-◌, Bool, true, false, cond, List, [], ◌∷◌, ◌++◌, length, take, drop, refl, sym, ap, ◌∙◌, arith}
use Rattle.std.proofs.lemmas.List.{length-append}
use Rattle.std.specs.Prelude.{IfOk, Result, Ok, codes, not, ◌==◌, ◌&&◌, slice_index}
use Rattle.std.specs.List.{prefix_len}
use Rattle.std.proofs.Math.Numerals.{sub-one}
use Rattle.ps_base.specs.declared.faults.Place.{Place}
use Rattle.ps_read.specs.declared.token.Token.{Token}
use Rattle.ps_read.specs.declared.token.Word.{Word}
use Rattle.ps_base.specs.declared.faults.SyntaxKind.{SyntaxKind}
use Rattle.ps_read.specs.declared.token.Front.{Front}
use Rattle.ps_read.specs.declared.token.Front.TheVariants.{Gap, Whole, Named, Quoted, Stop}
use Rattle.ps_read.specs.Grammar.{token}
use Rattle.std.specs.Prelude.{nat_le}
use Rattle.std.specs.Str.{bytes_eq}
use Rattle.std.specs.Str.Parse.{without_leading_sign}
use Rattle.std.proofs.lemmas.Bool.{eqb-true}
use Rattle.ps_base.specs.Names.{number_of}
use Rattle.ps_read.specs.Lexical.{Table, added, added_by, after, begun, behind, char_front, ends_here, escaped, front_of, is_delimiter, is_escape, is_float, is_identifier, is_numeral, is_numeral_in, is_space, listed, listed_by, marked_base, named_char, noted, resolved, run_front, run_len, run_word, small, string_from, taken, tokens}
use Rattle.ps_base.proofs.Choices.{and_true}
use Rattle.ps_read.specs.InsideReading.{Within, IsResolved}
use Rattle.std.specs.Prelude.{Option, Some, None, Err}
use Rattle.ps_read.specs.declared.token.Breach.{Breach}
use Rattle.ps_read.specs.Breaches.{breach_at}
use Rattle.ps_read.specs.InsideMachine.{State, moved, unless, finish, run}

-- ---- a front takes at least one byte, and no more than there are

prefix_within : (p : ℕ → Bool) (cs : List ℕ) → prefix_len p cs ≤ length cs
prefix_within p [] = omega arith
prefix_within p (c ∷ cs) = elim (p c) as (λ b. cond b (1 + prefix_len p cs) 0 ≤ suc (length cs)) [ true ↦ omega (arith, prefix_within p cs) | false ↦ omega arith ]

by_test : (b : Bool) (n : ℕ) (f g : Front) → (b ≡ true → Within n f) → (b ≡ false → Within n g) → Within n (cond b f g)
by_test true n f g first second = first refl
by_test false n f g first second = second refl

string_within : (is_escaped : Bool) (at : ℕ) (done cs : List ℕ) (n : ℕ) → 0 < at → at + length cs ≤ n → Within n (string_from is_escaped at done cs)
unfolding string_from
string_within true at done [] n h le = omega arith
string_within false at done [] n h le = omega arith
string_within true at done (c ∷ cs) n h le =
    by_test (is_escape c) n _ _ (λ _. string_within false (at + 1) (done ++ escaped c ∷ []) cs n (omega arith) (omega arith)) (λ _. omega arith)
string_within false at done (c ∷ cs) n h le =
    by_test (c == 34) n _ _ (λ _. (omega arith, omega arith)) (λ _.
    by_test (c == 0) n _ _ (λ _. omega arith) (λ _.
    by_test (c == 92) n _ _ (λ _. string_within true (at + 1) done cs n (omega arith) (omega arith)) (λ _. string_within false (at + 1) (done ++ c ∷ []) cs n (omega arith) (omega arith))))

word_within : (m : ℕ) (run : List ℕ) (n : ℕ) → 0 < m → m ≤ n → Within n (run_word m run)
unfolding run_word
word_within m run n h le =
    by_test (bytes_eq run (codes ".")) _ _ _ (λ _. (h, le)) (λ _.
    by_test (bytes_eq (small run) (codes "#t")) _ _ _ (λ _. (h, le)) (λ _.
    by_test (bytes_eq (small run) (codes "#f")) _ _ _ (λ _. (h, le)) (λ _.
    by_test (is_numeral 10 (without_leading_sign run)) _ _ _ (λ _. (h, le)) (λ _.
    by_test (is_numeral_in (marked_base run) run) _ _ _ (λ _. (h, le)) (λ _.
    by_test (is_identifier (small run)) _ _ _ (λ _. (h, le)) (λ _.
    by_test (is_float run) _ _ _ (λ _. (h, le)) (λ _. (h, le))))))))

run_within : (c : ℕ) (cs : List ℕ) → is_delimiter c ≡ false → Within (suc (length cs)) (run_front (c ∷ cs))
run_within c cs h =
    let one : run_len (c ∷ cs) ≡ 1 + run_len cs = rw h refl in
    word_within (run_len (c ∷ cs)) (take (run_len (c ∷ cs)) (c ∷ cs)) (suc (length cs)) (omega arith) (omega (arith, prefix_within (λ x. not (is_delimiter x)) cs))

-- where a test of the second byte is passed there is one
two : (c d : ℕ) (cs : List ℕ) → 0 < d → (c == 35 && slice_index cs 0 == d) ≡ true → 2 ≤ suc (length cs)
two c d [] some h = let e = eqb-true 0 d (and_true (c == 35) (0 == d) h).1 in omega arith
two c d (b ∷ cs) some h = omega arith

named_char_within : (m : ℕ) (name : List ℕ) (n : ℕ) → 0 < m → m ≤ n → Within n (named_char m name)
named_char_within m name n h le =
    by_test (bytes_eq name (codes "space")) _ _ _ (λ _. (h, le)) (λ _.
    by_test (bytes_eq name (codes "newline")) _ _ _ (λ _. (h, le)) (λ _. omega arith))

char_within : (cs : List ℕ) → Within (2 + length cs) (char_front cs)
unfolding char_front
char_within [] = omega arith
char_within (c ∷ cs) =
    by_test (nat_le 32 c && nat_le c 126 && ends_here cs) _ _ _ (λ _. (omega arith, omega arith))
    (λ _. named_char_within (2 + run_len (c ∷ cs)) (small (take (run_len (c ∷ cs)) (c ∷ cs))) (2 + length (c ∷ cs)) (omega arith) (omega (arith, prefix_within (λ x. not (is_delimiter x)) (c ∷ cs))))

behind_mark_within : (c : ℕ) (cs : List ℕ) → (c == 35 && slice_index cs 0 == 92) ≡ true → Within (suc (length cs)) (char_front (drop 1 cs))
behind_mark_within c [] h = let e = two c 92 [] (omega arith) h in absurd (omega arith)
behind_mark_within c (d ∷ cs) h = subst (λ (n : ℕ). Within n (char_front cs)) (omega arith) (char_within cs)

pub front_within : (c : ℕ) (cs : List ℕ) → Within (suc (length cs)) (front_of c cs)
unfolding front_of
front_within c cs =
    by_test (is_space c) _ _ _ (λ _. (omega arith, omega arith)) (λ no_space.
    by_test (c == 59) _ _ _ (λ _. (omega arith, omega (arith, prefix_within (λ x. not (x == 10)) cs))) (λ no_comment.
    by_test (c == 40) _ _ _ (λ _. (omega arith, omega arith)) (λ no_open.
    by_test (c == 41) _ _ _ (λ _. (omega arith, omega arith)) (λ no_close.
    by_test (c == 39) _ _ _ (λ _. omega arith) (λ _.
    by_test (c == 34) _ _ _ (λ _. string_within false 1 [] cs (suc (length cs)) (omega arith) (omega arith)) (λ no_string.
    by_test (c == 35 && slice_index cs 0 == 40) _ _ _ (λ h. (omega arith, two c 40 cs (omega arith) h)) (λ _.
    by_test (c == 35 && slice_index cs 0 == 92) _ _ _ (λ h. behind_mark_within c cs h) (λ _.
    run_within c cs (rw (no_space, no_open, no_close, no_string, no_comment) refl)))))))))

pub resolved_within : (names : Table) (n : ℕ) (f : Front) → Within n f → Within n (resolved names f)
unfolding resolved
resolved_within names n (Gap m) h = h
resolved_within names n (Whole m x) h = h
resolved_within names n (Named m x) h = h
resolved_within names n Quoted h = (omega arith, h)
resolved_within names n (Stop m kind) h = h

-- ---- tokens behind some bytes

pub skipped : (names : Table) (n : ℕ) (p : Place) (text : List ℕ) → n ≤ length text → tokens names n p text ≡ tokens names 0 (behind p (take n text)) (drop n text)
unfolding tokens
skipped names zero p [] h = refl
skipped names zero p (c ∷ cs) h = refl
skipped names (suc n) p [] h = refl
skipped names (suc n) p (c ∷ cs) h = skipped names n (after p c) cs (omega arith)

always_resolved : (names : Table) (f : Front) → IsResolved (resolved names f)
unfolding resolved
always_resolved names (Gap n) = tt
always_resolved names (Whole n x) = tt
always_resolved names (Named n x) = tt
always_resolved names Quoted = tt
always_resolved names (Stop n kind) = tt

opened : (names table : Table) (f : Front) (p : Place) (c : ℕ) (cs : List ℕ) → resolved names (front_of c cs) ≡ f → noted names (front_of c cs) ≡ table → tokens names 0 p (c ∷ cs) ≡ begun p f (c ∷ cs) (λ n. tokens table (n - 1) (after p c) cs)
unfolding tokens
opened names table f p c cs e g =
    ap (λ (y : Front). begun p y (c ∷ cs) (λ n. tokens (noted names (front_of c cs)) (n - 1) (after p c) cs)) e ∙ ap (λ (t : Table). begun p f (c ∷ cs) (λ n. tokens t (n - 1) (after p c) cs)) g

-- the tokens of what a front takes, and the others
pub fronted : (names table : Table) (f : Front) (p : Place) (c : ℕ) (cs : List ℕ) → resolved names (front_of c cs) ≡ f → noted names (front_of c cs) ≡ table → IsResolved f → Within (suc (length cs)) f
    → tokens names 0 p (c ∷ cs) ≡ begun p f (c ∷ cs) (λ n. tokens table 0 (behind p (take n (c ∷ cs))) (drop n (c ∷ cs)))
unfolding tokens
fronted names table (Gap zero) p c cs e g i h = absurd (omega arith)
fronted names table (Gap (suc n)) p c cs e g i h = opened names table (Gap (suc n)) p c cs e g ∙ ap (λ (k : ℕ). tokens table k (after p c) cs) (sub-one (suc n)) ∙ skipped table n (after p c) cs (omega arith)
fronted names table (Whole zero x) p c cs e g i h = absurd (omega arith)
fronted names table (Whole (suc n) x) p c cs e g i h = opened names table (Whole (suc n) x) p c cs e g ∙ ap (λ (k : ℕ). token p x ∷ tokens table k (after p c) cs) (sub-one (suc n)) ∙ ap (λ (ts : List Token). token p x ∷ ts) (skipped table n (after p c) cs (omega arith))
fronted names table (Named n x) p c cs e g i h = absurd i
fronted names table Quoted p c cs e g i h = absurd i
fronted names table (Stop n kind) p c cs e g i h = opened names table (Stop n kind) p c cs e g

-- ---- one turn

turn : (names table : Table) (f : Front) (p : Place) (text : List ℕ) → 0 < length text → IsResolved f → Within (length text) f → f ≡ resolved names (front_of (slice_index text 0) (drop 1 text)) → table ≡ noted names (front_of (slice_index text 0) (drop 1 text))
    → tokens names 0 p text ≡ begun p f text (λ n. tokens table 0 (behind p (take n text)) (drop n text))
turn names table f p [] some i h e g = absurd (omega arith)
turn names table f p (c ∷ cs) some i h e g = fronted names table f p c cs (sym e) (sym g) i h

module _ (names table : Table) (x : State) (p : Place) (text : List ℕ) (some : 0 < length text) where
  pub at_gap : (n : ℕ) → Within (length text) (Gap n) → Gap n ≡ resolved names (front_of (slice_index text 0) (drop 1 text)) → table ≡ noted names (front_of (slice_index text 0) (drop 1 text)) → run x (tokens names 0 p text) ≡ run x (tokens table 0 (behind p (take n text)) (drop n text))
  at_gap n h e t = ap (run x) (turn names table (Gap n) p text some tt h e t)

  pub at_stop : (n : ℕ) (kind : SyntaxKind) → Within (length text) (Stop n kind) → Stop n kind ≡ resolved names (front_of (slice_index text 0) (drop 1 text)) → table ≡ noted names (front_of (slice_index text 0) (drop 1 text)) → run x (tokens names 0 p text) ≡ Err (record { kind = kind; place = behind p (take n text) })
  unfolding run
  at_stop n kind h e t = ap (run x) (turn names table (Stop n kind) p text some tt h e t)

  pub at_breach : (n : ℕ) (word : Word) (b : Breach) → Within (length text) (Whole n word) → Whole n word ≡ resolved names (front_of (slice_index text 0) (drop 1 text)) → table ≡ noted names (front_of (slice_index text 0) (drop 1 text)) → Some b ≡ breach_at x.1 p word → run x (tokens names 0 p text) ≡ Err b
  unfolding run
  at_breach n word b h e t f = ap (run x) (turn names table (Whole n word) p text some tt h e t) ∙ ap (λ (o : Option Breach). unless o (run (moved x p word) (tokens table 0 (behind p (take n text)) (drop n text)))) (sym f)

  pub at_token : (n : ℕ) (word : Word) (y : State) → Within (length text) (Whole n word) → Whole n word ≡ resolved names (front_of (slice_index text 0) (drop 1 text)) → table ≡ noted names (front_of (slice_index text 0) (drop 1 text)) → None ≡ breach_at x.1 p word → y ≡ moved x p word
      → run x (tokens names 0 p text) ≡ run y (tokens table 0 (behind p (take n text)) (drop n text))
  unfolding run
  at_token n word y h e t f g = ap (run x) (turn names table (Whole n word) p text some tt h e t) ∙ ap (λ (o : Option Breach). unless o (run (moved x p word) (tokens table 0 (behind p (take n text)) (drop n text)))) (sym f)
      ∙ ap (λ (z : State). run z (tokens table 0 (behind p (take n text)) (drop n text))) (sym g)

-- at the end
pub at_end : (names : Table) (x : State) (p : Place) (text : List ℕ) → text ≡ [] → run x (tokens names 0 p text) ≡ finish x.0 x.1
unfolding run tokens
at_end names x p text e = ap (λ (cs : List ℕ). run x (tokens names 0 p cs)) e

-- ---- the next front

pub next_is : (names : Table) (text : List ℕ) (f : Front) → 0 < length text → f ≡ resolved names (front_of (slice_index text 0) (drop 1 text)) → Within (length text) f × IsResolved f
next_is names [] f some e = absurd (omega arith)
next_is names (c ∷ cs) f some e = subst (λ (y : Front). Within (suc (length cs)) y × IsResolved y) (sym e) (resolved_within names (suc (length cs)) (front_of c cs) (front_within c cs), always_resolved names (front_of c cs))

noted_len : (names : Table) (name : List ℕ) → length (added names name) ≤ length names + 1
noted_len names name = go (number_of names name)
  where
    go : (o : Option ℕ) → length (added_by names name o) ≤ length names + 1
    go None = omega (arith, length-append names (name ∷ []))
    go (Some n) = omega arith

pub noted_within : (names : Table) (f : Front) → length (noted names f) ≤ length names + 1
unfolding noted
noted_within names (Gap n) = omega arith
noted_within names (Whole n x) = omega arith
noted_within names (Named n name) = noted_len names name
noted_within names Quoted = noted_len names (codes "quote")
noted_within names (Stop n kind) = omega arith

pub next_ok : {E : Type 0} (names : Table) (text : List ℕ) (r : Result Front E) → 0 < length text → IfOk r (λ f. f ≡ resolved names (front_of (slice_index text 0) (drop 1 text))) → IfOk r (λ f. Within (length text) f × IsResolved f)
next_ok names text (Ok f) some e = next_is names text f some e
next_ok names text (Err x) some e = tt

-- ---- the table behind a text

pub listed_skipped : (names : Table) (n : ℕ) (text : List ℕ) → n ≤ length text → listed names n text ≡ listed names 0 (drop n text)
unfolding listed
listed_skipped names zero [] h = refl
listed_skipped names zero (c ∷ cs) h = refl
listed_skipped names (suc n) [] h = refl
listed_skipped names (suc n) (c ∷ cs) h = listed_skipped names n cs (omega arith)

pub taken_resolved : (names : Table) (f : Front) → taken (resolved names f) ≡ taken f
unfolding resolved
taken_resolved names (Gap n) = refl
taken_resolved names (Whole n x) = refl
taken_resolved names (Named n x) = refl
taken_resolved names Quoted = refl
taken_resolved names (Stop n kind) = refl

-- behind what a front takes, the table is that with its name
pub at_listed : (names table : Table) (f : Front) (text : List ℕ) (n : ℕ) → 0 < n → n ≤ length text → taken f ≡ Some n → f ≡ resolved names (front_of (slice_index text 0) (drop 1 text)) → table ≡ noted names (front_of (slice_index text 0) (drop 1 text))
    → listed names 0 text ≡ listed table 0 (drop n text)
unfolding listed
at_listed names table f [] n some le t e g = absurd (omega arith)
at_listed names table f (c ∷ cs) zero some le t e g = absurd (omega arith)
at_listed names table f (c ∷ cs) (suc n) some le t e g =
    let takes : taken (front_of c cs) ≡ Some (suc n) = sym (taken_resolved names (front_of c cs)) ∙ ap taken (sym e) ∙ t in
    ap (λ (o : Option ℕ). listed_by (noted names (front_of c cs)) o (λ m. listed (noted names (front_of c cs)) (m - 1) cs)) takes
    ∙ ap (λ (x : Table). listed x (suc n - 1) cs) (sym g) ∙ ap (λ (k : ℕ). listed table k cs) (sub-one (suc n)) ∙ listed_skipped table n cs (omega arith)

pub listed_end : (names : Table) (text : List ℕ) → text ≡ [] → names ≡ listed names 0 text
unfolding listed
listed_end names text e = sym (ap (λ (cs : List ℕ). listed names 0 cs) e)
