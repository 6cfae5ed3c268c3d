-- Runs and tables: what of a text's front stays when other bytes stand behind it, and what number a name has in a table that grew.
-- For: written_data_read_again
use Rattle.std.proofs.Common.{◌≡◌, ℕ, zero, suc, ◌≤◌, ◌-◌, Bool, true, false, cond, List, [], ◌∷◌, ◌++◌, length, take, drop, Option, Some, None, slice_index_or, refl, sym, ap, ◌∙◌, arith}
use Rattle.std.specs.Prelude.{not}
use Rattle.std.specs.List.{list_all}
use Rattle.std.specs.Option.{option_map}
use Rattle.std.specs.Str.{bytes_eq}
use Rattle.std.proofs.Math.Numerals.{sub-one}
use Rattle.std.proofs.lemmas.Slice.Eq.{bytes_eq-Decides}
use Rattle.std.proofs.lemmas.List.{take_at}
use Rattle.ps_base.specs.Names.{number_of}
use Rattle.ps_base.specs.declared.faults.Place.{Place}
use Rattle.ps_datum.specs.declared.datum.Datum.{Datum}
use Rattle.ps_datum.specs.declared.datum.DatumKind.{DatumKind, out-DatumKind}
use Rattle.ps_datum.specs.declared.datum.DatumKind.TheVariants as k
use Rattle.ps_datum.specs.InsideWriting.{kind_written}
use Rattle.ps_read.specs.declared.token.Token.{Token}
use Rattle.ps_read.specs.declared.token.Word.{Word}
use Rattle.ps_read.specs.declared.token.Word.TheVariants as w
use Rattle.ps_read.specs.declared.token.Front.{Front}
use Rattle.ps_read.specs.declared.token.Front.TheVariants.{Whole}
use Rattle.ps_read.specs.Grammar.{token, joined_by}
use Rattle.ps_base.proofs.Choices.{and_left, and_rest}
use Rattle.ps_read.proofs.TokensComeByFronts.{skipped, listed_skipped, taken_resolved}
use Rattle.ps_read.specs.Lexical.{Table, added, added_by, after, begun, behind, ends_here, front_of, is_delimiter, listed, listed_by, noted, number_in, number_or, resolved, run_front, run_len, run_word, taken, tokens}

-- ---- runs before a delimiter

abbrev pub Delimited : List ℕ → Type 0
Delimited m = ends_here m ≡ true

run_delimited : (m : List ℕ) → Delimited m → run_len m ≡ 0
run_delimited [] h = refl
run_delimited (c ∷ cs) h = rw h refl

unfoldable pub is_run_byte : ℕ → Bool
is_run_byte c = not (is_delimiter c)

pub run_whole : (run m : List ℕ) → list_all is_run_byte run ≡ true → Delimited m → run_len (run ++ m) ≡ length run
unfolding is_run_byte
run_whole [] m all h = run_delimited m h
run_whole (c ∷ cs) m all h =
    let here : not (is_delimiter c) ≡ true = and_left (not (is_delimiter c)) (list_all is_run_byte cs) all in
    rw here (omega (arith, run_whole cs m (and_rest (not (is_delimiter c)) (list_all is_run_byte cs) all) h))

pub run_front_is : (run m : List ℕ) → list_all is_run_byte run ≡ true → Delimited m → run_front (run ++ m) ≡ run_word (length run) run
run_front_is run m all h = ap (λ (n : ℕ). run_word n (take n (run ++ m))) (run_whole run m all h) ∙ ap (λ (t : List ℕ). run_word (length run) t) (take_at run m (length run) refl)

-- ---- a token that leaves the table

pub one_token : (names : Table) (n : ℕ) (x : Word) (p : Place) (c : ℕ) (cs : List ℕ) → resolved names (front_of c cs) ≡ Whole (suc n) x → noted names (front_of c cs) ≡ names → n ≤ length cs
    → tokens names 0 p (c ∷ cs) ≡ token p x ∷ tokens names 0 (behind p (take (suc n) (c ∷ cs))) (drop (suc n) (c ∷ cs))
unfolding tokens
one_token names n x p c cs e g le =
    ap (λ (y : Front). begun p y (c ∷ cs) (λ i. tokens (noted names (front_of c cs)) (i - 1) (after p c) cs)) e ∙ ap (λ (t : Table). token p x ∷ tokens t (suc n - 1) (after p c) cs) g
    ∙ ap (λ (i : ℕ). token p x ∷ tokens names i (after p c) cs) (sub-one (suc n)) ∙ ap (λ (ts : List Token). token p x ∷ ts) (skipped names n (after p c) cs le)

pub one_listed : (names : Table) (n : ℕ) (x : Word) (c : ℕ) (cs : List ℕ) → resolved names (front_of c cs) ≡ Whole (suc n) x → noted names (front_of c cs) ≡ names → n ≤ length cs → listed names 0 (c ∷ cs) ≡ listed names 0 (drop (suc n) (c ∷ cs))
unfolding listed
one_listed names n x c cs e g le =
    ap (λ (o : Option ℕ). listed_by (noted names (front_of c cs)) o (λ i. listed (noted names (front_of c cs)) (i - 1) cs)) (sym (taken_resolved names (front_of c cs)) ∙ ap taken e) ∙ ap (λ (t : Table). listed t (suc n - 1) cs) g
    ∙ ap (λ (i : ℕ). listed names i cs) (sub-one (suc n)) ∙ listed_skipped names n cs le

-- ---- atoms

-- the text of an atom is one token before a delimiter, which leaves the table, and its kind is no list
pub record IsAtom (names : Table) (x : DatumKind) : Type 0 where
  pub first : ℕ
  pub others : List ℕ
  pub text : kind_written names x ≡ first ∷ others
  pub front : (more : List ℕ) → Delimited more → resolved names (front_of first (others ++ more)) ≡ Whole (suc (length others)) (w.Atom x)
  pub table : (more : List ℕ) → Delimited more → noted names (front_of first (others ++ more)) ≡ names
  pub no_list : (ds : List Datum) (t : Datum) → joined_by ds t (out-DatumKind x) ≡ k.Dotted ds t

-- the atoms among the tokens, and the names of quotes
abbrev pub FineWord : Table → Word → Type 0
FineWord names (w.Atom x) = IsAtom names x
FineWord names (w.Quote nq) = IsAtom names (k.Symbol nq)
FineWord names _ = Unit {0}

unfoldable pub Fine : Table → List Token → Type 0
Fine names [] = Unit {0}
Fine names (t ∷ ts) = FineWord names t.word × Fine names ts

-- ---- tables

-- a text keeps its number when the table grows
kept_by : (b : Bool) (o p : Option ℕ) (n : ℕ) → ((m : ℕ) → o ≡ Some m → p ≡ Some m) → cond b (Some 0) (option_map suc o) ≡ Some n → cond b (Some 0) (option_map suc p) ≡ Some n
kept_by true o p n h e = e
kept_by false None p n h e = absurd cc
kept_by false (Some m) p n h e = ap (option_map suc) (h m refl) ∙ e

pub number_kept : (t more : Table) (x : List ℕ) (n : ℕ) → number_of t x ≡ Some n → number_of (t ++ more) x ≡ Some n
number_kept [] more x n h = absurd cc
number_kept (y ∷ t) more x n h = kept_by (bytes_eq x y) (number_of t x) (number_of (t ++ more) x) n (λ m e. number_kept t more x m e) h

-- a new text has the number behind the last
last_by : (b : Bool) (o p : Option ℕ) (n : ℕ) → (o ≡ None → p ≡ Some n) → cond b (Some 0) (option_map suc o) ≡ None → cond b (Some 0) (option_map suc p) ≡ Some (suc n)
last_by true o p n h e = absurd cc
last_by false None p n h e = ap (option_map suc) (h refl)
last_by false (Some m) p n h e = absurd cc

number_last : (t : Table) (x : List ℕ) → number_of t x ≡ None → number_of (t ++ x ∷ []) x ≡ Some (length t)
number_last [] x h = ap (λ (b : Bool). cond b (Some 0) None) ((bytes_eq-Decides x x).1 refl)
number_last (y ∷ t) x h = last_by (bytes_eq x y) (number_of t x) (number_of (t ++ x ∷ []) x) (length t) (λ e. number_last t x e) h

pub number_added : (t : Table) (x : List ℕ) → number_of (added t x) x ≡ Some (number_in t x)
number_added t x = go (number_of t x) refl
  where
    go : (o : Option ℕ) → number_of t x ≡ o → number_of (added_by t x o) x ≡ Some (number_or (length t) o)
    go None e = number_last t x e
    go (Some n) e = e

-- the text of a number that the table gives
at_by : (t : Table) (x y : List ℕ) (b : Bool) (o : Option ℕ) (n : ℕ) → bytes_eq x y ≡ b → ((m : ℕ) → o ≡ Some m → slice_index_or t m [] ≡ x) → cond b (Some 0) (option_map suc o) ≡ Some n → slice_index_or (y ∷ t) n [] ≡ x
at_by t x y true o zero e h g = sym ((bytes_eq-Decides x y).0 e)
at_by t x y true o (suc n) e h g = absurd cc
at_by t x y false None n e h g = absurd cc
at_by t x y false (Some m) zero e h g = absurd cc
at_by t x y false (Some m) (suc n) e h g = let i : m ≡ n = cc in h n (ap (λ (k : ℕ). Some k) i)

pub text_at : (t : Table) (x : List ℕ) (n : ℕ) → number_of t x ≡ Some n → slice_index_or t n [] ≡ x
text_at [] x n h = absurd cc
text_at (y ∷ t) x n h = at_by t x y (bytes_eq x y) (number_of t x) n refl (λ m e. text_at t x m e) h
