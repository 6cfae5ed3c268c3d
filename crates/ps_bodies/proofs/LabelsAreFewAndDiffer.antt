-- Codes that are met one by one are such as may stand in a node, as the definition says of all of them.
-- For: Codes, are_labels
use Rattle.std.proofs.Common.{◌≡◌, ℕ, ℤ, suc, ◌+◌, ◌<◌, ◌≤◌, Bool, true, false, List, [], ◌∷◌, ◌++◌, length, get_or, map, drop, drop-cons, refl, sym, ap, ◌∙◌, append_assoc, append-nil, arith, Option, Some, None}
use Rattle.std.specs.Prelude.{◌&&◌, ◌||◌, not, nat_le, nat_lt, if◌then◌else◌}
use Rattle.std.specs.List.{list_any}
use Rattle.std.specs.Option.{option_and_then}
use Rattle.std.specs.Ordering.{int_eq}
use Rattle.std.proofs.lemmas.List.{at_drop_all}
use Rattle.std.proofs.lemmas.Bool.{false≢true}
use Rattle.std.proofs.lemmas.Bool.Decides.{Decides-int_eq}
use Rattle.ps_derived.specs.Seen.{seen_case_clause}
use Rattle.ps_derived.specs.declared.types.CaseClause.{CaseClause}
use Rattle.ps_derived.specs.declared.types.Label.{Label}
use Rattle.ps_kernel.specs.Most.{most_labels}
use Rattle.ps_kernel.specs.Rules.{is_among, differ}
use Rattle.ps_bodies.specs.Branches.{all_by, before, are_labels, labels_of_all}
use Rattle.ps_bodies.specs.InsideBranches.{then_codes, codes_behind, when_told}

-- ---- codes that differ

-- none stands again, nor among those before
abbrev none_twice : List ℤ → List ℤ → Bool
none_twice seen [] = true
none_twice seen (c ∷ cs) = not (is_among c seen) && none_twice (seen ++ c ∷ []) cs

-- none stands among those before
abbrev apart : List ℤ → List ℤ → Bool
apart seen [] = true
apart seen (c ∷ cs) = not (is_among c seen) && apart seen cs

same_both : (c d : ℤ) → int_eq c d ≡ int_eq d c
same_both c d = one (int_eq c d) (int_eq d c) refl refl
  where
    one : (a b : Bool) → int_eq c d ≡ a → int_eq d c ≡ b → a ≡ b
    one true true ha hb = refl
    one false false ha hb = refl
    one true false ha hb = absurd (false≢true (sym hb ∙ (Decides-int_eq d c).1 (sym ((Decides-int_eq c d).0 ha))))
    one false true ha hb = absurd (false≢true (sym ha ∙ (Decides-int_eq c d).1 (sym ((Decides-int_eq d c).0 hb))))

or_end : (a b c : Bool) → (a || (b || c)) ≡ ((a || b) || c)
or_end true b c = refl
or_end false b c = refl

or_none : (a : Bool) → (a || false) ≡ a
or_none true = refl
or_none false = refl

among_end : (d c : ℤ) (seen : List ℤ) → is_among d (seen ++ c ∷ []) ≡ (is_among d seen || int_eq c d)
among_end d c [] = or_none (int_eq d c) ∙ same_both d c
among_end d c (e ∷ seen) = ap (λ (x : Bool). int_eq d e || x) (among_end d c seen) ∙ or_end (int_eq d e) (is_among d seen) (int_eq c d)

-- not (a || b) and the rest, parted
parted : (a b c d : Bool) → (not (a || b) && (c && not d)) ≡ ((not a && c) && not (b || d))
parted true b c d = refl
parted false true true d = refl
parted false true false d = refl
parted false false true d = refl
parted false false false d = refl

apart_end : (c : ℤ) (seen cs : List ℤ) → apart (seen ++ c ∷ []) cs ≡ (apart seen cs && not (is_among c cs))
apart_end c seen [] = refl
apart_end c seen (d ∷ cs) =
    ap (λ (x : Bool). not x && apart (seen ++ c ∷ []) cs) (among_end d c seen)
    ∙ ap (λ (x : Bool). not (is_among d seen || int_eq c d) && x) (apart_end c seen cs)
    ∙ parted (is_among d seen) (int_eq c d) (apart seen cs) (is_among c cs)

moved : (a b c d : Bool) → (not a && ((b && not c) && d)) ≡ ((not a && b) && (not c && d))
moved true b c d = refl
moved false true c d = refl
moved false false c d = refl

none_is : (seen cs : List ℤ) → none_twice seen cs ≡ (apart seen cs && differ cs)
none_is seen [] = refl
none_is seen (c ∷ cs) =
    ap (λ (x : Bool). not (is_among c seen) && x) (none_is (seen ++ c ∷ []) cs)
    ∙ ap (λ (x : Bool). not (is_among c seen) && (x && differ cs)) (apart_end c seen cs)
    ∙ moved (is_among c seen) (apart seen cs) (is_among c cs) (differ cs)

apart_none : (cs : List ℤ) → apart [] cs ≡ true
apart_none [] = refl
apart_none (c ∷ cs) = apart_none cs

none_differ : (cs : List ℤ) → none_twice [] cs ≡ differ cs
none_differ cs = none_is [] cs ∙ ap (λ (x : Bool). x && differ cs) (apart_none cs)

-- ---- codes met one by one

abbrev behind : List ℤ → Option (List ℤ) → Option (List ℤ)
behind seen None = None
behind seen (Some cs) = if none_twice seen cs then Some (seen ++ cs) else None

then_one : (seen : List ℤ) (c : ℤ) (there : Bool) (all : Option (List ℤ)) → is_among c seen ≡ there
    → (if there then None else behind (seen ++ c ∷ []) all) ≡ behind seen (before (Some c) all)
then_one seen c true None e = refl
then_one seen c false None e = refl
then_one seen c true (Some cs) e = sym
    (ap (λ (x : Bool). if not x && none_twice (seen ++ c ∷ []) cs then Some (seen ++ c ∷ cs) else None) e)
then_one seen c false (Some cs) e =
    ap (λ (xs : List ℤ). if none_twice (seen ++ c ∷ []) cs then Some xs else None) (append_assoc seen (c ∷ []) cs)
    ∙ sym (ap (λ (x : Bool). if not x && none_twice (seen ++ c ∷ []) cs then Some (seen ++ c ∷ cs) else None) e)

behind_is : (f : Label → Option ℤ) (ls : List Label) (seen : List ℤ) → codes_behind f ls seen ≡ behind seen (all_by f ls)
behind_is f [] seen = ap Some (sym (append-nil seen))
behind_is f (l ∷ ls) seen = one (f l) (λ c. behind_is f ls (seen ++ c ∷ []))
  where
    one : (code : Option ℤ) → ((c : ℤ) → codes_behind f ls (seen ++ c ∷ []) ≡ behind (seen ++ c ∷ []) (all_by f ls))
        → then_codes (codes_behind f ls) seen code ≡ behind seen (before code (all_by f ls))
    one None h = refl
    one (Some c) h =
        ap (λ (x : Option (List ℤ)). if is_among c seen then None else x) (h c)
        ∙ then_one seen c (is_among c seen) (all_by f ls) refl

-- those of one list and then of another
pub two_lists : (f : Label → Option ℤ) (ls ms : List Label) (seen : List ℤ) → codes_behind f (ls ++ ms) seen
    ≡ option_and_then (codes_behind f ms) (codes_behind f ls seen)
two_lists f [] ms seen = refl
two_lists f (l ∷ ls) ms seen = one (f l) (λ c. two_lists f ls ms (seen ++ c ∷ []))
  where
    two : (c : ℤ) (there : Bool) → codes_behind f (ls ++ ms) (seen ++ c ∷ [])
        ≡ option_and_then (codes_behind f ms) (codes_behind f ls (seen ++ c ∷ []))
        → (if there then None else codes_behind f (ls ++ ms) (seen ++ c ∷ []))
        ≡ option_and_then (codes_behind f ms) (if there then None else codes_behind f ls (seen ++ c ∷ []))
    two c true h = refl
    two c false h = h

    one : (code : Option ℤ)
        → ((c : ℤ) → codes_behind f (ls ++ ms) (seen ++ c ∷ [])
        ≡ option_and_then (codes_behind f ms) (codes_behind f ls (seen ++ c ∷ [])))
        → then_codes (codes_behind f (ls ++ ms)) seen code ≡ option_and_then (codes_behind f ms) (then_codes (codes_behind f ls) seen code)
    one None h = refl
    one (Some c) h = two c (is_among c seen) (h c)

-- ---- the codes of clauses

from_clause : (cs : List CaseClause) (i : ℕ) (x : CaseClause) → i < length cs → x ≡ get_or cs i x
    → labels_of_all (map seen_case_clause (drop i cs)) ≡ x.labels ++ labels_of_all (map seen_case_clause (drop (i + 1) cs))
from_clause cs i x lt is =
    ap (λ (ds : List CaseClause). labels_of_all (map seen_case_clause ds)) (drop-cons cs i x lt)
    ∙ ap (λ (d : CaseClause). d.labels ++ labels_of_all (map seen_case_clause (drop (suc i) cs))) (sym is)
    ∙ ap (λ (j : ℕ). x.labels ++ labels_of_all (map seen_case_clause (drop j cs))) (let e : suc i ≡ i + 1 = omega arith in e)

-- the codes of a clause, and then of those behind it
one_clause : (f : Label → Option ℤ) (cs : List CaseClause) (i : ℕ) (x : CaseClause) (codes new : List ℤ) (told : Bool)
    (all : Option (List ℤ))
    → i < length cs → x ≡ get_or cs i x → codes_behind f x.labels codes ≡ when_told told new
    → codes_behind f (labels_of_all (map seen_case_clause (drop i cs))) codes ≡ all
    → option_and_then (codes_behind f (labels_of_all (map seen_case_clause (drop (i + 1) cs)))) (when_told told new) ≡ all
one_clause f cs i x codes new told all lt is now inv =
    let rest : List Label = labels_of_all (map seen_case_clause (drop (i + 1) cs)) in
    sym (ap (λ (o : Option (List ℤ)). option_and_then (codes_behind f rest) o) now)
    ∙ sym (two_lists f x.labels rest codes)
    ∙ sym (ap (λ (ls : List Label). codes_behind f ls codes) (from_clause cs i x lt is))
    ∙ inv

pub next_clause : (f : Label → Option ℤ) (cs : List CaseClause) (i : ℕ) (x : CaseClause) (codes new : List ℤ) (told : Bool)
    (all : Option (List ℤ))
    → i < length cs → x ≡ get_or cs i x → codes_behind f x.labels codes ≡ when_told told new → told ≡ true
    → codes_behind f (labels_of_all (map seen_case_clause (drop i cs))) codes ≡ all
    → codes_behind f (labels_of_all (map seen_case_clause (drop (i + 1) cs))) new ≡ all
next_clause f cs i x codes new true all lt is now so inv = one_clause f cs i x codes new true all lt is now inv
next_clause f cs i x codes new false all lt is now so inv = absurd cc

none_behind : (f : Label → Option ℤ) (cs : List CaseClause) (i : ℕ) (x : CaseClause) (codes new : List ℤ) (told : Bool)
    (all : Option (List ℤ))
    → i < length cs → x ≡ get_or cs i x → codes_behind f x.labels codes ≡ when_told told new → told ≡ false
    → codes_behind f (labels_of_all (map seen_case_clause (drop i cs))) codes ≡ all
    → all ≡ None
none_behind f cs i x codes new true all lt is now so inv = absurd cc
none_behind f cs i x codes new false all lt is now so inv = sym (one_clause f cs i x codes new false all lt is now inv)

-- ---- what all of them are

abbrev are_few : List ℤ → Bool
are_few cs = nat_lt 0 (length cs) && nat_le (length cs) most_labels

and_true : (a b : Bool) → (a && b) ≡ (a && (b && true))
and_true true true = refl
and_true true false = refl
and_true false b = refl

and_false : (a b : Bool) → false ≡ (a && (b && false))
and_false true true = refl
and_false true false = refl
and_false false b = refl

pub all_differ : (f : Label → Option ℤ) (ls : List Label) (cs : List ℤ) → codes_behind f ls [] ≡ Some cs → are_few cs
    ≡ are_labels (all_by f ls)
all_differ f ls cs e = one (all_by f ls) (sym (behind_is f ls []) ∙ e)
  where
    two : (ds : List ℤ) (right : Bool) → differ ds ≡ right → (if right then Some ds else None) ≡ Some cs → are_few cs ≡ are_labels (Some ds)
    two ds true d e =
        let same : ds ≡ cs = cc in
        ap are_few (sym same) ∙ and_true (nat_lt 0 (length ds)) (nat_le (length ds) most_labels)
        ∙ ap (λ (x : Bool). nat_lt 0 (length ds) && (nat_le (length ds) most_labels && x)) (sym d)
    two ds false d e = absurd cc

    one : (all : Option (List ℤ)) → behind [] all ≡ Some cs → are_few cs ≡ are_labels all
    one None e = absurd cc
    one (Some ds) e = two ds (differ ds) refl (ap (λ (x : Bool). if x then Some ds else None) (sym (none_differ ds)) ∙ e)

pub not_all : (f : Label → Option ℤ) (ls : List Label) → codes_behind f ls [] ≡ None → false ≡ are_labels (all_by f ls)
not_all f ls e = one (all_by f ls) (sym (behind_is f ls []) ∙ e)
  where
    two : (ds : List ℤ) (right : Bool) → differ ds ≡ right → (if right then Some ds else None) ≡ None → false ≡ are_labels (Some ds)
    two ds true d e = absurd cc
    two ds false d e =
        and_false (nat_lt 0 (length ds)) (nat_le (length ds) most_labels)
        ∙ ap (λ (x : Bool). nat_lt 0 (length ds) && (nat_le (length ds) most_labels && x)) (sym d)

    one : (all : Option (List ℤ)) → behind [] all ≡ None → false ≡ are_labels all
    one None e = refl
    one (Some ds) e = two ds (differ ds) refl (ap (λ (x : Bool). if x then Some ds else None) (sym (none_differ ds)) ∙ e)

pub bad_clause : (f : Label → Option ℤ) (cs : List CaseClause) (i : ℕ) (x : CaseClause) (codes new : List ℤ) (told : Bool)
    → i < length cs → x ≡ get_or cs i x → codes_behind f x.labels codes ≡ when_told told new → told ≡ false
    → codes_behind f (labels_of_all (map seen_case_clause (drop i cs))) codes ≡ codes_behind f (labels_of_all (map seen_case_clause cs)) []
    → false ≡ are_labels (all_by f (labels_of_all (map seen_case_clause cs)))
bad_clause f cs i x codes new told lt is now so inv =
    not_all f (labels_of_all (map seen_case_clause cs)) (none_behind f cs i x codes new told _ lt is now so inv)

-- ---- a table of codes

pub any_is : (c : ℤ) (seen : List ℤ) → list_any (int_eq c) seen ≡ is_among c seen
any_is c [] = refl
any_is c (d ∷ seen) = ap (λ (x : Bool). int_eq c d || x) (any_is c seen)

-- the codes of all clauses, at the end
pub last_clause : (f : Label → Option ℤ) (cs : List CaseClause) (i : ℕ) (codes : List ℤ) → length cs ≤ i
    → codes_behind f (labels_of_all (map seen_case_clause (drop i cs))) codes ≡ codes_behind f (labels_of_all (map seen_case_clause cs)) []
    → (nat_lt 0 (length codes) && nat_le (length codes) most_labels) ≡ are_labels (all_by f (labels_of_all (map seen_case_clause cs)))
last_clause f cs i codes end inv =
    all_differ f (labels_of_all (map seen_case_clause cs)) codes
    (sym inv ∙ at_drop_all (λ (ds : List CaseClause). codes_behind f (labels_of_all (map seen_case_clause ds)) codes) cs i end)
