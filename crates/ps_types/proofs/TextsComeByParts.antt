-- Texts that are written part by part, and parts that are known.
-- For: put_type, put_types, knows_all
use Rattle.std.proofs.Common.{◌≡◌, ℕ, zero, suc, ◌+◌, ◌<◌, Bool, true, List, [], ◌∷◌, length, drop, map, get_or, Result, refl, sym, ap, subst, ◌∙◌, arith, drop-cons, add-one}
use Rattle.std.specs.Prelude.{codes}
use Rattle.std.proofs.lemmas.List.{nil_from_length, length-drop, length-map, get_or-map}
use Rattle.ps_base.specs.declared.sink.SinkFault.{SinkFault}
use Rattle.ps_base.specs.SinkStates.{SinkState}
use Rattle.ps_base.specs.Sinks.{Adds}
use Rattle.ps_base.specs.Texts.{◌&◌}
use Rattle.ps_base.proofs.Writing.{adds_then, adds_nothing}
use Rattle.ps_types.specs.declared.types.Ty.{Ty, Ty-F, fold-Ty, fold-roll-Ty}
use Rattle.ps_types.specs.declared.types.Ty.TheVariants as types
use Rattle.ps_types.specs.declared.types.RecordKind.{RecordKind}
use Rattle.ps_types.specs.Writing.{Text, all_known, next_parts, spaced, text_node, text_in}
use Rattle.ps_types.specs.InsideWriting.{space_before}
use Rattle.ps_base.proofs.Choices.{and_left, and_rest}

-- ---- the text of a type of parts

pub of_vector : (kinds : List RecordKind) (names : List Text) (vars : List ℕ) (t : Ty) → text_in kinds names vars (types.Vector t) ≡ codes "(vector " & text_in kinds names vars t & codes ")"
unfolding text_in
of_vector kinds names vars t = ap (fold-Ty Text (text_node kinds names vars)) (sym (types.rolls-Vector t)) ∙ fold-roll-Ty Text (text_node kinds names vars) (Ty-F.Vector t)

pub of_proc : (kinds : List RecordKind) (names : List Text) (vars : List ℕ) (ts : List Ty) (t : Ty) → text_in kinds names vars (types.Proc ts t) ≡ codes "(proc (" & spaced (map (text_in kinds names vars) ts) & codes ") " & text_in kinds names vars t & codes ")"
unfolding text_in
of_proc kinds names vars ts t = ap (fold-Ty Text (text_node kinds names vars)) (sym (types.rolls-Proc ts t)) ∙ fold-roll-Ty Text (text_node kinds names vars) (Ty-F.Proc ts t)

-- ---- the parts of a list, one after another

-- the parts from a place on, with what stands before each
abbrev pub spaced_from : ℕ → List Text → Text
spaced_from zero parts = spaced parts
spaced_from (suc i) parts = next_parts (drop (suc i) parts)

-- the text of the parts from a place on begins with that of the part there
part_then : (i : ℕ) (parts : List Text) → i < length parts → spaced_from i parts ≡ (space_before i & get_or parts i []) & spaced_from (i + 1) parts
unfolding ◌&◌
part_then zero [] lt = absurd (omega arith)
part_then zero (x ∷ xs) lt = refl
part_then (suc i) xs lt = ap next_parts (drop-cons xs (suc i) [] lt) ∙ ap (λ (n : ℕ). (space_before (suc i) & get_or xs (suc i) []) & spaced_from n xs) (sym (add-one (suc i)))

-- a part that is not the first stands behind a space
pub space_at : (i : ℕ) → (i ≡ 0 → ⊥) → space_before i ≡ 32 ∷ []
space_at zero ne = absurd (ne refl)
space_at (suc i) ne = refl

-- one part, and then the rest
pub adds_part : {A : Type 0} {s v t u : SinkState} {q p r x : Result (Unit {0}) SinkFault} (f : A → Text) (i : ℕ) (xs : List A) (y : A) → i < length xs → y ≡ get_or xs i y
    → Adds s q v p (space_before i) → Adds v p t r (f y) → Adds t r u x (spaced_from (i + 1) (map f xs)) → Adds s q u x (spaced_from i (map f xs))
adds_part {s = s} {u = u} {q = q} {x = x} f i xs y lt e g h k =
    let here : f y ≡ get_or (map f xs) i [] = ap f e ∙ sym (get_or-map f xs i y [] lt) in
    subst (λ (z : Text). Adds s q u x z) (sym (part_then i (map f xs) (omega (arith, length-map xs f)) ∙ ap (λ (z : Text). (space_before i & z) & spaced_from (i + 1) (map f xs)) (sym here))) (adds_then _ _ _ _ _ _ _ _ (adds_then _ _ _ _ _ _ _ _ g h) k)

-- behind the last
pub adds_none : {A : Type 0} {s : SinkState} {q : Result (Unit {0}) SinkFault} (f : A → Text) (i : ℕ) (xs : List A) → i ≡ length xs → Adds s q s q (spaced_from i (map f xs))
adds_none {s = s} {q = q} f zero [] e = adds_nothing s q
adds_none {s = s} {q = q} f zero (x ∷ xs) e = absurd (omega arith)
adds_none {s = s} {q = q} f (suc i) xs e = subst (λ (z : Text). Adds s q s q z) (sym (ap next_parts (nil_from_length (drop (suc i) (map f xs)) (omega (arith, length-drop (suc i) (map f xs), length-map xs f))))) (adds_nothing s q)

-- ---- known parts

-- each part passes the test that all pass
pub known_at : {A : Type 0} (f : A → Bool) (xs : List A) (i : ℕ) (y : A) → all_known (map f xs) ≡ true → i < length xs → y ≡ get_or xs i y → f y ≡ true
known_at f [] i y all lt e = absurd (omega arith)
known_at f (x ∷ xs) zero y all lt e = ap f e ∙ and_left (f x) (all_known (map f xs)) all
known_at f (x ∷ xs) (suc i) y all lt e = known_at f xs i y (and_rest (f x) (all_known (map f xs)) all) (omega arith) e
