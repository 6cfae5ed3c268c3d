-- Texts that are written part by part.
-- For: put_kind, put_items, put_all_escaped, write_datum
use Rattle.std.proofs.Common.{◌≡◌, ℕ, zero, suc, ◌+◌, ◌<◌, Bool, true, false, List, [], ◌∷◌, ◌++◌, length, drop, map, get_or, slice_index_or, Result, Ok, Err, refl, sym, ap, subst, ◌∙◌, append_assoc, arith, drop-cons, add-one}
use Rattle.std.specs.Prelude.{◌&&◌, OnOk, OnErr}
use Rattle.std.specs.List.{flat_map}
use Rattle.std.proofs.lemmas.List.{append-nil, nil_from_length, length-drop, length-map, get_or-map}
use Rattle.std.proofs.lemmas.List.Concat.{flat_map-cons}
use Rattle.ps_base.specs.declared.memory.NoMemory.{NoMemory}
use Rattle.ps_datum.specs.declared.datum.Datum.{Datum}
use Rattle.ps_base.specs.declared.names.Name.{Name}
use Rattle.ps_datum.specs.declared.datum.DatumKind.TheVariants as k
use Rattle.ps_datum.specs.Writing.{Text, Cut, all_known, is_known, text_node, spaced, written}
use Rattle.ps_datum.specs.InsideWriting.{Writes, Adds, space_before, kind_written}
use Rattle.ps_datum.proofs.Trees.{fold-symbol, fold-list, fold-vector, fold-dotted}
use Rattle.ps_base.proofs.Choices.{and_left, and_rest}

-- what was cut is cut where more stands behind it
cut_more : (s t a b : Text) → Cut s t a → Cut s t (a ++ b)
cut_more s t a b h = record {
  front = h.front;
  rest = h.rest ++ b;
  parts = ap (λ (x : Text). x ++ b) h.parts ∙ append_assoc h.front h.rest b;
  appended = h.appended;
}

-- one text and then another
pub adds_then : {s t u a b : Text} {q r x : Result (Unit {0}) NoMemory} → Adds s q t r a → Adds t r u x b → Adds s q u x (a ++ b)
adds_then {s} {t} {u} {a} {b} {q} {r} {x} h k = record { holds = λ start front w. subst (λ (y : Text). Writes start u y x) (append_assoc front a b) (k.holds start (front ++ a) (h.holds start front w)) }

adds_nothing : (s : Text) (q : Result (Unit {0}) NoMemory) → Adds s q s q []
adds_nothing s q = record { holds = λ start front w. subst (λ (y : Text). Writes start s y q) (sym (append-nil front)) w }

-- what was added from the start was written
from_start : (s t text : Text) (r : Result (Unit {0}) NoMemory) → Adds s (Ok tt) t r text → Writes s t text r
from_start s t text r h = h.holds s [] (sym (append-nil s))

-- ---- the members of a list, one after another

bytes_at : (i : ℕ) (xs : Text) → i < length xs → drop i xs ≡ get_or xs i 0 ∷ drop (i + 1) xs
bytes_at i xs lt = drop-cons xs i 0 lt ∙ ap (λ (n : ℕ). get_or xs i 0 ∷ drop n xs) (sym (add-one i))

-- one byte, and then the rest
pub adds_byte : {s t u : Text} {q r x : Result (Unit {0}) NoMemory} (i : ℕ) (xs : Text) → i < length xs → Adds s q t r (get_or xs i 0 ∷ []) → Adds t r u x (drop (i + 1) xs) → Adds s q u x (drop i xs)
adds_byte {s} {t} {u} {q} {r} {x} i xs lt h k = subst (λ (y : Text). Adds s q u x y) (sym (bytes_at i xs lt)) (adds_then h k)

-- one byte's text, and then those of the rest
pub adds_each : {s t u : Text} {q r x : Result (Unit {0}) NoMemory} (f : ℕ → Text) (i : ℕ) (xs : Text) → i < length xs → Adds s q t r (f (get_or xs i 0)) → Adds t r u x (flat_map f (drop (i + 1) xs)) → Adds s q u x (flat_map f (drop i xs))
adds_each {s} {t} {u} {q} {r} {x} f i xs lt h k = subst (λ (y : Text). Adds s q u x y) (sym (ap (flat_map f) (bytes_at i xs lt) ∙ flat_map-cons f (get_or xs i 0) (drop (i + 1) xs))) (adds_then h k)

-- the parts from a place on
abbrev pub spaced_from : ℕ → List Text → Text
spaced_from zero parts = spaced parts
spaced_from (suc i) parts = flat_map (λ y. 32 ∷ y) (drop (suc i) parts)

-- the text of the parts from a place on begins with that of the part there
part_then : (i : ℕ) (parts : List Text) → i < length parts → spaced_from i parts ≡ (space_before i ++ get_or parts i []) ++ spaced_from (i + 1) parts
part_then zero [] lt = absurd (omega arith)
part_then zero (x ∷ xs) lt = refl
part_then (suc i) xs lt =
    ap (flat_map (λ y. 32 ∷ y)) (drop-cons xs (suc i) [] lt) ∙ flat_map-cons (λ (y : Text). 32 ∷ y) (get_or xs (suc i) []) (drop (suc (suc i)) xs) ∙ ap (λ (n : ℕ). 32 ∷ get_or xs (suc i) [] ++ spaced_from n xs) (sym (add-one (suc i)))

-- one part, and then the rest
pub adds_part : {A : Type 0} {s v t u : Text} {q p r x : Result (Unit {0}) NoMemory} (f : A → Text) (i : ℕ) (xs : List A) (y : A) → i < length xs → y ≡ get_or xs i y
    → Adds s q v p (space_before i) → Adds v p t r (f y) → Adds t r u x (spaced_from (i + 1) (map f xs)) → Adds s q u x (spaced_from i (map f xs))
adds_part {s = s} {u = u} {q = q} {x = x} f i xs y lt e g h k =
    let here : f y ≡ get_or (map f xs) i [] = ap f e ∙ sym (get_or-map f xs i y [] lt) in
    subst (λ (z : Text). Adds s q u x z) (sym (part_then i (map f xs) (omega (arith, length-map xs f)) ∙ ap (λ (z : Text). (space_before i ++ z) ++ spaced_from (i + 1) (map f xs)) (sym here))) (adds_then (adds_then g h) k)

-- behind the last
pub adds_none : {A : Type 0} {s : Text} {q : Result (Unit {0}) NoMemory} (f : A → Text) (i : ℕ) (xs : List A) → i ≡ length xs → Adds s q s q (spaced_from i (map f xs))
adds_none {s = s} {q = q} f zero [] e = adds_nothing s q
adds_none {s = s} {q = q} f zero (x ∷ xs) e = absurd (omega arith)
adds_none {s = s} {q = q} f (suc i) xs e = subst (λ (z : Text). Adds s q s q z) (sym (ap (flat_map (λ y. 32 ∷ y)) (nil_from_length (drop (suc i) (map f xs)) (omega (arith, length-drop (suc i) (map f xs), length-map xs f))))) (adds_nothing s q)

-- ---- known names

-- each part passes the test that all pass
known_at : {A : Type 0} (f : A → Bool) (xs : List A) (i : ℕ) (y : A) → all_known (map f xs) ≡ true → i < length xs → y ≡ get_or xs i y → f y ≡ true
known_at f [] i y all lt e = absurd (omega arith)
known_at f (x ∷ xs) zero y all lt e = ap f e ∙ and_left (f x) (all_known (map f xs)) all
known_at f (x ∷ xs) (suc i) y all lt e = known_at f xs i y (and_rest (f x) (all_known (map f xs)) all) (omega arith) e

-- each part of what is known is known
pub part_known : (names : List Text) (ds : List Datum) (i : ℕ) (d : Datum) → all_known (map (is_known names) ds) ≡ true → i < length ds → d ≡ get_or ds i d → is_known names d ≡ true
part_known names ds i d all lt e = known_at (is_known names) ds i d all lt e

-- ---- the text of a kind

pub of_symbol : (names : List Text) (n : Name) → kind_written names (k.Symbol n) ≡ slice_index_or names n.0 []
unfolding kind_written
of_symbol names = fold-symbol (text_node names) (λ y. y.kind)

pub of_list : (names : List Text) (ds : List Datum) → kind_written names (k.List ds) ≡ 40 ∷ spaced (map (written names) ds) ++ 41 ∷ []
unfolding kind_written written
of_list names = fold-list (text_node names) (λ y. y.kind)

pub of_vector : (names : List Text) (ds : List Datum) → kind_written names (k.Vector ds) ≡ 35 ∷ 40 ∷ spaced (map (written names) ds) ++ 41 ∷ []
unfolding kind_written written
of_vector names = fold-vector (text_node names) (λ y. y.kind)

pub of_dotted : (names : List Text) (ds : List Datum) (last : Datum) → kind_written names (k.Dotted ds last) ≡ 40 ∷ spaced (map (written names) ds) ++ 32 ∷ 46 ∷ 32 ∷ [] ++ written names last ++ 41 ∷ []
unfolding kind_written written
of_dotted names = fold-dotted (text_node names) (λ y. y.kind)

-- ---- what became of a kind's parts

pub adds_text : {s u a b : Text} {q x : Result (Unit {0}) NoMemory} → a ≡ b → Adds s q u x a → Adds s q u x b
adds_text {s} {u} {a} {b} {q} {x} e h = subst (λ (y : Text). Adds s q u x y) e h

-- what was added from the start was written, or cut
pub all_written : (s t text : Text) (r : Result (Unit {0}) NoMemory) → Adds s (Ok tt) t r text → OnOk r (t ≡ s ++ text)
all_written s t text (Ok done) h = from_start s t text (Ok done) h
all_written s t text (Err e) h = tt

pub cut_short : (s t text : Text) (r : Result (Unit {0}) NoMemory) → Adds s (Ok tt) t r text → OnErr r (Cut s t text)
cut_short s t text (Ok done) h = tt
cut_short s t text (Err e) h = from_start s t text (Err e) h
