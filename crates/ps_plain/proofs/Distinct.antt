-- Distinct names, taken one by one and in another order; and the tests that a head passes.
-- For: `faults_tell_programs`
use Rattle.std.proofs.Common.{◌≡◌, ℕ, zero, suc, ◌+◌, ◌≤◌, List, [], ◌∷◌, ◌++◌, length, Option, Some, None, refl, sym, ap, ◌∙◌, subst, arith, append_assoc, append-nil}
use Rattle.std.specs.Prelude.{Bool, true, false, not, ◌&&◌, if◌then◌else◌, nat_lt, is_some}
use Rattle.std.specs.Option.{option_map}
use Rattle.std.specs.List.{AllByRecursion}
use Rattle.std.specs.Str.{bytes_eq}
use Rattle.std.proofs.lemmas.Bool.{ltb-true, lt-ltb, and_parts, and_from, not-true}
use Rattle.std.proofs.lemmas.Slice.Eq.{bytes_eq-Decides}
use Rattle.ps_base.specs.Names.{AreDistinct, IsNew, number_of}
use Rattle.ps_base.proofs.Tables.{distinct-more}
use Rattle.ps_plain.specs.Forms.{Head, names_in, IsHead}

-- ---- the number of a name

new_tail : (t : List ℕ) (ts : List (List ℕ)) (w : List ℕ) → IsNew (t ∷ ts) w → IsNew ts w
new_tail t ts w new i at = new (suc i) at

absent_later : (o : Option ℕ) → is_some (option_map suc o) ≡ false → is_some o ≡ false
absent_later None h = refl
absent_later (Some n) h = cc

absent_by : (t : List ℕ) (ts : List (List ℕ)) (w : List ℕ) (b : Bool) → bytes_eq w t ≡ b → is_some (if b then Some 0 else option_map suc (number_of ts w)) ≡ false → (bytes_eq w t ≡ false) × (is_some (number_of ts w) ≡ false)
absent_by t ts w true e h = cc
absent_by t ts w false e h = (e, absent_later (number_of ts w) h)

-- a name that has no number stands in no place
pub absent_new : (ts : List (List ℕ)) (w : List ℕ) → is_some (number_of ts w) ≡ false → IsNew ts w
absent_new [] w h i at = cc
absent_new (t ∷ ts) w h zero at =
    let first = (absent_by t ts w (bytes_eq w t) refl h).0 in
    let same : w ≡ t = cc in
    let is = (bytes_eq-Decides w t).1 same in
    cc
absent_new (t ∷ ts) w h (suc i) at = absent_new ts w (absent_by t ts w (bytes_eq w t) refl h).1 i at

later_absent : (o : Option ℕ) → is_some o ≡ false → is_some (option_map suc o) ≡ false
later_absent None h = refl
later_absent (Some n) h = cc

new_by : (t : List ℕ) (ts : List (List ℕ)) (w : List ℕ) (b : Bool) → bytes_eq w t ≡ b → (w ≡ t → ⊥) → is_some (number_of ts w) ≡ false → is_some (if b then Some 0 else option_map suc (number_of ts w)) ≡ false
new_by t ts w true e other absent = absurd (other ((bytes_eq-Decides w t).0 e))
new_by t ts w false e other absent = later_absent (number_of ts w) absent

-- and the other way
pub new_absent : (ts : List (List ℕ)) (w : List ℕ) → IsNew ts w → is_some (number_of ts w) ≡ false
new_absent [] w new = refl
new_absent (t ∷ ts) w new = new_by t ts w (bytes_eq w t) refl (λ e. new 0 (ap (λ x. Some x) (sym e))) (new_absent ts w (new_tail t ts w new))

-- ---- new names and distinct names of lists

new_both : (xs ys : List (List ℕ)) (w : List ℕ) → IsNew xs w → IsNew ys w → IsNew (xs ++ ys) w
new_both [] ys w new later i at = later i at
new_both (x ∷ xs) ys w new later zero at = new 0 at
new_both (x ∷ xs) ys w new later (suc i) at = new_both xs ys w (new_tail x xs w new) later i at

new_left : (xs ys : List (List ℕ)) (w : List ℕ) → IsNew (xs ++ ys) w → IsNew xs w
new_left [] ys w new i at = cc
new_left (x ∷ xs) ys w new zero at = new 0 at
new_left (x ∷ xs) ys w new (suc i) at = new_left xs ys w (new_tail x (xs ++ ys) w new) i at

new_right : (xs ys : List (List ℕ)) (w : List ℕ) → IsNew (xs ++ ys) w → IsNew ys w
new_right [] ys w new i at = new i at
new_right (x ∷ xs) ys w new i at = new_right xs ys w (new_tail x (xs ++ ys) w new) i at

head_new : (x : List ℕ) (xs : List (List ℕ)) → AreDistinct (x ∷ xs) → IsNew xs x
head_new x xs are i at = let clash : suc i ≡ 0 = are (suc i) 0 x at refl in cc

tail_distinct : (x : List ℕ) (xs : List (List ℕ)) → AreDistinct (x ∷ xs) → AreDistinct xs
tail_distinct x xs are i j w at also = let same : suc i ≡ suc j = are (suc i) (suc j) w at also in omega arith

one_more : (x : List ℕ) (xs : List (List ℕ)) → IsNew xs x → AreDistinct xs → AreDistinct (x ∷ xs)
one_more x xs new are zero zero w at also = refl
one_more x xs new are zero (suc j) w at also = absurd (new j (also ∙ sym at))
one_more x xs new are (suc i) zero w at also = absurd (new i (at ∙ sym also))
one_more x xs new are (suc i) (suc j) w at also = ap suc (are i j w at also)

pub none_distinct : AreDistinct []
none_distinct i j w at also = cc

-- a name that stands in front may stand between the others
pub moved_back : (xs ys : List (List ℕ)) (y : List ℕ) → AreDistinct (y ∷ (xs ++ ys)) → AreDistinct (xs ++ y ∷ ys)
moved_back [] ys y are = are
moved_back (x ∷ xs) ys y are =
    let new_y = head_new y (x ∷ (xs ++ ys)) are in
    let rest = tail_distinct y (x ∷ (xs ++ ys)) are in
    let new_x = head_new x (xs ++ ys) rest in
    let later = moved_back xs ys y (one_more y (xs ++ ys) (new_tail x (xs ++ ys) y new_y) (tail_distinct x (xs ++ ys) rest)) in
    one_more x (xs ++ y ∷ ys) (new_both xs (y ∷ ys) x (new_left xs ys x new_x) (behind y ys x (λ e. new_y 0 (ap (λ z. Some z) (sym e))) (new_right xs ys x new_x))) later
  where
    behind : (y : List ℕ) (ys : List (List ℕ)) (x : List ℕ) → (y ≡ x → ⊥) → IsNew ys x → IsNew (y ∷ ys) x
    behind y ys x other new zero at = other cc
    behind y ys x other new (suc i) at = new i at

-- and the other way
pub moved_front : (xs ys : List (List ℕ)) (y : List ℕ) → AreDistinct (xs ++ y ∷ ys) → AreDistinct (y ∷ (xs ++ ys))
moved_front [] ys y are = are
moved_front (x ∷ xs) ys y are =
    let new_x = head_new x (xs ++ y ∷ ys) are in
    let front = moved_front xs ys y (tail_distinct x (xs ++ y ∷ ys) are) in
    let behind = new_right xs (y ∷ ys) x new_x in
    one_more y (x ∷ (xs ++ ys)) (first x (xs ++ ys) y (λ e. behind 0 (ap (λ z. Some z) (sym e))) (head_new y (xs ++ ys) front))
    (one_more x (xs ++ ys) (new_both xs ys x (new_left xs (y ∷ ys) x new_x) (new_tail y ys x behind)) (tail_distinct y (xs ++ ys) front))
  where
    first : (x : List ℕ) (xs : List (List ℕ)) (y : List ℕ) → (x ≡ y → ⊥) → IsNew xs y → IsNew (x ∷ xs) y
    first x xs y other new zero at = other cc
    first x xs y other new (suc i) at = new i at

-- ---- names that are taken one by one

-- each name is new behind those before it
abbrev pub all_new : List (List ℕ) → List (List ℕ) → Bool
all_new before [] = true
all_new before (x ∷ xs) = not (is_some (number_of before x)) && all_new (before ++ x ∷ []) xs

-- names that are taken one by one, behind some that are distinct
new_distinct : (before xs : List (List ℕ)) → AreDistinct before → all_new before xs ≡ true → AreDistinct (before ++ xs)
new_distinct before [] are h = subst AreDistinct (sym (append-nil before)) are
new_distinct before (x ∷ xs) are h =
    let parts = and_parts (not (is_some (number_of before x))) (all_new (before ++ x ∷ []) xs) h in
    let more = distinct-more before x are (absent_new before x (not-true (is_some (number_of before x)) parts.0)) in
    subst AreDistinct (append_assoc before (x ∷ []) xs) (new_distinct (before ++ x ∷ []) xs more parts.1)

-- a name that stands behind others is none of them
pub new_before : (before : List (List ℕ)) (x : List ℕ) (xs : List (List ℕ)) → AreDistinct (before ++ x ∷ xs) → IsNew before x
new_before before x xs are = new_left before xs x (head_new x (before ++ xs) (moved_front before xs x are))

distinct_new : (before xs : List (List ℕ)) → AreDistinct (before ++ xs) → all_new before xs ≡ true
distinct_new before [] are = refl
distinct_new before (x ∷ xs) are =
    let absent = new_absent before x (new_before before x xs are) in
    let rest = distinct_new (before ++ x ∷ []) xs (subst AreDistinct (sym (append_assoc before (x ∷ []) xs)) are) in
    and_from (not (is_some (number_of before x))) (all_new (before ++ x ∷ []) xs) (ap not absent) rest

-- names are distinct where each is new behind those before it
pub distinct_of : (xs : List (List ℕ)) → all_new [] xs ≡ true → AreDistinct xs
distinct_of xs h = new_distinct [] xs none_distinct h

pub new_of : (xs : List (List ℕ)) → AreDistinct xs → all_new [] xs ≡ true
new_of xs are = distinct_new [] xs are

-- ---- heads

-- the parameters behind n others are new, and not too many
abbrev pub are_parameters : ℕ → List (List ℕ) → List (List ℕ) → Bool
are_parameters n before [] = true
are_parameters n before (x ∷ xs) = not (is_some (number_of before x)) && (nat_lt n 127 && are_parameters (suc n) (before ++ x ∷ []) xs)

-- what the test of parameters says
parameters_new : (n : ℕ) (before xs : List (List ℕ)) → n ≤ 127 → are_parameters n before xs ≡ true → (all_new before xs ≡ true) × (n + length xs ≤ 127)
parameters_new n before [] le h = (refl, omega arith)
parameters_new n before (x ∷ xs) le h =
    let parts = and_parts (not (is_some (number_of before x))) (nat_lt n 127 && are_parameters (suc n) (before ++ x ∷ []) xs) h in
    let later = and_parts (nat_lt n 127) (are_parameters (suc n) (before ++ x ∷ []) xs) parts.1 in
    let rest = parameters_new (suc n) (before ++ x ∷ []) xs (omega (arith, ltb-true n 127 later.0)) later.1 in
    (and_from (not (is_some (number_of before x))) (all_new (before ++ x ∷ []) xs) parts.0 rest.0, omega (arith, rest.1))

-- and the other way
new_parameters : (n : ℕ) (before xs : List (List ℕ)) → all_new before xs ≡ true → n + length xs ≤ 127 → are_parameters n before xs ≡ true
new_parameters n before [] h le = refl
new_parameters n before (x ∷ xs) h le =
    let parts = and_parts (not (is_some (number_of before x))) (all_new (before ++ x ∷ []) xs) h in
    let rest = new_parameters (suc n) (before ++ x ∷ []) xs parts.1 (omega arith) in
    and_from (not (is_some (number_of before x))) (nat_lt n 127 && are_parameters (suc n) (before ++ x ∷ []) xs) parts.0 (and_from (nat_lt n 127) (are_parameters (suc n) (before ++ x ∷ []) xs) (lt-ltb n 127 (omega arith)) rest)

-- a head with a new name, whose parameters are fine
abbrev pub is_fine_head : List (List ℕ) → Head → Bool
is_fine_head defined h = not (is_some (number_of defined h.name)) && are_parameters 0 [] h.parameters

-- heads that each define a name that is new behind those before
abbrev pub are_fine_heads : List (List ℕ) → List Head → Bool
are_fine_heads defined [] = true
are_fine_heads defined (h ∷ hs) = is_fine_head defined h && are_fine_heads (defined ++ h.name ∷ []) hs

-- what the test of heads says
fine_parts : (defined : List (List ℕ)) (hs : List Head) → are_fine_heads defined hs ≡ true → (all_new defined (names_in hs) ≡ true) × AllByRecursion IsHead hs
fine_parts defined [] h = (refl, tt)
fine_parts defined (x ∷ hs) h =
    let parts = and_parts (is_fine_head defined x) (are_fine_heads (defined ++ x.name ∷ []) hs) h in
    let first = and_parts (not (is_some (number_of defined x.name))) (are_parameters 0 [] x.parameters) parts.0 in
    let head = parameters_new 0 [] x.parameters (omega arith) first.1 in
    let rest = fine_parts (defined ++ x.name ∷ []) hs parts.1 in
    (and_from (not (is_some (number_of defined x.name))) (all_new (defined ++ x.name ∷ []) (names_in hs)) first.0 rest.0, (record { distinct = distinct_of x.parameters head.0; few = omega (arith, head.1) }, rest.1))

-- and the other way
parts_fine : (defined : List (List ℕ)) (hs : List Head) → all_new defined (names_in hs) ≡ true → AllByRecursion IsHead hs → are_fine_heads defined hs ≡ true
parts_fine defined [] h are = refl
parts_fine defined (x ∷ hs) h are =
    let parts = and_parts (not (is_some (number_of defined x.name))) (all_new (defined ++ x.name ∷ []) (names_in hs)) h in
    let few = are.0.few in
    let head = new_parameters 0 [] x.parameters (new_of x.parameters are.0.distinct) (omega arith) in
    and_from (is_fine_head defined x) (are_fine_heads (defined ++ x.name ∷ []) hs) (and_from (not (is_some (number_of defined x.name))) (are_parameters 0 [] x.parameters) parts.0 head) (parts_fine (defined ++ x.name ∷ []) hs parts.1 are.1)

-- the heads of a program, of which none stands before
pub fine_heads : (hs : List Head) → are_fine_heads [] hs ≡ true → AreDistinct (names_in hs) × AllByRecursion IsHead hs
fine_heads hs h = let parts = fine_parts [] hs h in (distinct_of (names_in hs) parts.0, parts.1)

pub heads_fine : (hs : List Head) → AreDistinct (names_in hs) → AllByRecursion IsHead hs → are_fine_heads [] hs ≡ true
heads_fine hs are all = parts_fine [] hs (new_of (names_in hs) are) all
