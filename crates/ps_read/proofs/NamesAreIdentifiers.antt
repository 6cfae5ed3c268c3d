-- The names of a text are identifiers in small letters.
-- For: read_all (identifiers)
use Rattle.std.proofs.Common.{◌≡◌, ℕ, ◌+◌, Bool, true, false, cond, List, [], ◌∷◌, ◌++◌, drop, take, refl}
use Rattle.std.specs.Prelude.{Option, Some, None, codes, ◌==◌, ◌&&◌, nat_le, slice_index}
use Rattle.std.specs.List.{AllByRecursion}
use Rattle.std.specs.Str.{bytes_eq}
use Rattle.std.specs.Str.Parse.{without_leading_sign}
use Rattle.std.proofs.lemmas.Str.Ascii.{lowercase-lowercase}
use Rattle.ps_base.specs.Names.{number_of}
use Rattle.ps_read.specs.declared.token.Front.{Front}
use Rattle.ps_read.specs.declared.token.Front.TheVariants.{Gap, Whole, Named, Quoted, Stop}
use Rattle.ps_read.specs.Lexical.{Table, added, added_by, char_front, ends_here, escaped, front_of, is_escape, is_float, is_identifier, is_numeral, is_numeral_in, is_space, marked_base, noted, run_len, run_word, small, string_from}
use Rattle.ps_read.specs.Reading.{IsName, AreNames}

-- the name of a front, if it has one, is such a name
NameFits : Front → Type 0
NameFits (Gap n) = Unit {0}
NameFits (Whole n x) = Unit {0}
NameFits (Named n name) = IsName name
NameFits Quoted = Unit {0}
NameFits (Stop n kind) = Unit {0}

by_test : (b : Bool) (f g : Front) → (b ≡ true → NameFits f) → NameFits g → NameFits (cond b f g)
by_test true f g h e = h refl
by_test false f g h e = e

small_small : (run : List ℕ) → small (small run) ≡ small run
small_small [] = refl
small_small (c ∷ cs) = let e = lowercase-lowercase c in let es = small_small cs in cc

run_fits : (n : ℕ) (run : List ℕ) → NameFits (run_word n run)
unfolding run_word NameFits
run_fits n run =
    by_test (bytes_eq run (codes ".")) _ _ (λ _. tt)
    (by_test (bytes_eq (small run) (codes "#t")) _ _ (λ _. tt)
    (by_test (bytes_eq (small run) (codes "#f")) _ _ (λ _. tt)
    (by_test (is_numeral 10 (without_leading_sign run)) _ _ (λ _. tt)
    (by_test (is_numeral_in (marked_base run) run) _ _ (λ _. tt)
    (by_test (is_identifier (small run)) _ _ (λ yes. record { identifier = yes; in_small = small_small run })
    (by_test (is_float run) _ _ (λ _. tt) tt))))))

char_fits : (cs : List ℕ) → NameFits (char_front cs)
unfolding char_front NameFits
char_fits [] = tt
char_fits (c ∷ cs) =
    by_test (nat_le 32 c && nat_le c 126 && ends_here cs) _ _ (λ _. tt)
    (by_test (bytes_eq (small (take (run_len (c ∷ cs)) (c ∷ cs))) (codes "space")) _ _ (λ _. tt)
    (by_test (bytes_eq (small (take (run_len (c ∷ cs)) (c ∷ cs))) (codes "newline")) _ _ (λ _. tt) tt))

string_fits : (is_escaped : Bool) (at : ℕ) (done cs : List ℕ) → NameFits (string_from is_escaped at done cs)
unfolding string_from NameFits
string_fits true at done [] = tt
string_fits false at done [] = tt
string_fits true at done (c ∷ cs) = by_test (is_escape c) _ _ (λ _. string_fits false (at + 1) (done ++ escaped c ∷ []) cs) tt
string_fits false at done (c ∷ cs) =
    by_test (c == 34) _ _ (λ _. tt)
    (by_test (c == 0) _ _ (λ _. tt)
    (by_test (c == 92) _ _ (λ _. string_fits true (at + 1) done cs) (string_fits false (at + 1) (done ++ c ∷ []) cs)))

front_fits : (c : ℕ) (cs : List ℕ) → NameFits (front_of c cs)
unfolding front_of NameFits
front_fits c cs =
    by_test (is_space c) _ _ (λ _. tt)
    (by_test (c == 59) _ _ (λ _. tt)
    (by_test (c == 40) _ _ (λ _. tt)
    (by_test (c == 41) _ _ (λ _. tt)
    (by_test (c == 39) _ _ (λ _. tt)
    (by_test (c == 34) _ _ (λ _. string_fits false 1 [] cs)
    (by_test (c == 35 && slice_index cs 0 == 40) _ _ (λ _. tt)
    (by_test (c == 35 && slice_index cs 0 == 92) _ _ (λ _. char_fits (drop 1 cs)) (run_fits (run_len (c ∷ cs)) (take (run_len (c ∷ cs)) (c ∷ cs))))))))))

-- ---- a table with one more name

one_more : (names : Table) (name : List ℕ) → AllByRecursion IsName names → IsName name → AllByRecursion IsName (names ++ name ∷ [])
one_more [] name all one = (one, tt)
one_more (n ∷ names) name all one = (all.0, one_more names name all.1 one)

added_names : (names : Table) (name : List ℕ) → IsName name → AreNames names → AreNames (added names name)
added_names names name one are = go (number_of names name)
  where
    go : (o : Option ℕ) → AreNames (added_by names name o)
    go None = record { all = one_more names name are.all one }
    go (Some n) = are

quote_is : IsName (codes "quote")
unfolding is_identifier
quote_is = record { identifier = refl; in_small = refl }

noted_by : (names : Table) (f : Front) → NameFits f → AreNames names → AreNames (noted names f)
unfolding NameFits noted
noted_by names (Gap n) h are = are
noted_by names (Whole n x) h are = are
noted_by names (Named n name) h are = added_names names name h are
noted_by names Quoted h are = added_names names (codes "quote") quote_is are
noted_by names (Stop n kind) h are = are

pub noted_names : (names : Table) (c : ℕ) (cs : List ℕ) → AreNames names → AreNames (noted names (front_of c cs))
noted_names names c cs are = noted_by names (front_of c cs) (front_fits c cs) are
