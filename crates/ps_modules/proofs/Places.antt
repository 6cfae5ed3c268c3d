-- The places of numbers in a list.
-- For: Numbers::place, Numbers::push, walk
use Rattle.std.proofs.Common.{◌≡◌, ℕ, suc, ◌+◌, ◌<◌, List, [], ◌∷◌, ◌++◌, length, true, false, not, cond, ◌||◌, nat_eq, Option, Some, None, refl, sym, ap, ◌∙◌, arith, ⊎_elim, if◌then◌else◌}
use Rattle.std.specs.Prelude.{nat_lt, is_some}
use Rattle.std.specs.Option.{option_map}
use Rattle.std.specs.List.{list_any, position_or_len, position}
use Rattle.std.proofs.lemmas.Bool.{ltb-true, lt-ltb}
use Rattle.ps_base.proofs.Choices.{true_or_false}
use Rattle.ps_modules.specs.Texts.{place_in}

not-below : (n len : ℕ) → nat_lt n len ≡ false → nat_lt (1 + n) (suc len) ≡ false
not-below n len h0 =
    ⊎_elim
    (λ yes. let lt : n < len = omega (arith, ltb-true (1 + n) (suc len) yes) in let e = lt-ltb n len lt in absurd (let clash : true ≡ false = sym e ∙ h0 in cc))
    (λ h. h)
    (true_or_false (nat_lt (1 + n) (suc len)))

later : (n len : ℕ) → cond (nat_lt (1 + n) (suc len)) (Some (1 + n)) None ≡ option_map suc (cond (nat_lt n len) (Some n) None)
later n len =
    let one : 1 + n ≡ suc n = omega arith in
    ⊎_elim
    (λ yes.
    let lt : 1 + n < suc len = omega (arith, ltb-true n len yes) in
    ap (λ t. cond t (Some (1 + n)) None) (lt-ltb (1 + n) (suc len) lt) ∙ ap Some one ∙ sym (ap (λ t. option_map suc (cond t (Some n) None)) yes))
    (λ no.
    ap (λ t. cond t (Some (1 + n)) None) (not-below n len no) ∙ sym (ap (λ t. option_map suc (cond t (Some n) None)) no))
    (true_or_false (nat_lt n len))

-- the place is that of std's words
pub position-is : (numbers : List ℕ) (j : ℕ) → position (nat_eq j) numbers ≡ place_in numbers j
position-is [] j = refl
position-is (i ∷ numbers) j =
    let n = position_or_len (nat_eq j) numbers in
    ⊎_elim
    (λ yes. ap (λ t. cond (nat_lt (cond (not t) (1 + n) 0) (length (i ∷ numbers))) (Some (cond (not t) (1 + n) 0)) None) yes ∙ ap (λ t. cond t (Some 0) None) (lt-ltb 0 (length (i ∷ numbers)) (omega arith)) ∙ sym (ap (λ t. if t then Some 0 else option_map suc (place_in numbers j)) yes))
    (λ no.
    let first : position (nat_eq j) (i ∷ numbers) ≡ cond (nat_lt (1 + n) (length (i ∷ numbers))) (Some (1 + n)) None = ap (λ t. cond (nat_lt (cond (not t) (1 + n) 0) (length (i ∷ numbers))) (Some (cond (not t) (1 + n) 0)) None) no in
    let last : place_in (i ∷ numbers) j ≡ option_map suc (place_in numbers j) = ap (λ t. if t then Some 0 else option_map suc (place_in numbers j)) no in
    first ∙ later n (length numbers) ∙ ap (option_map suc) (position-is numbers j) ∙ sym last)
    (true_or_false (nat_eq j i))

none_more : (p : Option ℕ) → option_map suc p ≡ None → p ≡ None
none_more None h = refl
none_more (Some n) h = let x : Some (suc n) ≡ None = h in absurd (cc)

head_here : (i j : ℕ) (numbers : List ℕ) → nat_eq j i ≡ true → place_in (i ∷ numbers) j ≡ Some 0
head_here i j numbers holds = ap (λ t. if t then Some 0 else option_map suc (place_in numbers j)) holds

head_other : (i j : ℕ) (numbers : List ℕ) → nat_eq j i ≡ false → place_in (i ∷ numbers) j ≡ option_map suc (place_in numbers j)
head_other i j numbers fails = ap (λ t. if t then Some 0 else option_map suc (place_in numbers j)) fails

-- what has no place is none of the numbers
pub absent : (numbers : List ℕ) (j : ℕ) → place_in numbers j ≡ None → list_any (nat_eq j) numbers ≡ false
absent [] j h = refl
absent (i ∷ numbers) j h = ⊎_elim
    (λ yes. let x : Some 0 ≡ None = sym (head_here i j numbers yes) ∙ h in absurd (cc))
    (λ no. ap (λ t. t || list_any (nat_eq j) numbers) no ∙ absent numbers j (none_more (place_in numbers j) (sym (head_other i j numbers no) ∙ h)))
    (true_or_false (nat_eq j i))

-- ---- one number more

map_none : (p : Option ℕ) → is_some (option_map suc p) ≡ is_some p
map_none None = refl
map_none (Some n) = refl

-- whether a number has a place among these and one more
pub there_more : (numbers : List ℕ) (i j : ℕ) → is_some (place_in (numbers ++ i ∷ []) j) ≡ (is_some (place_in numbers j) || nat_eq j i)
there_more [] i j = ⊎_elim
    (λ yes. ap is_some (head_here i j [] yes) ∙ sym yes)
    (λ no. ap is_some (head_other i j [] no) ∙ sym no)
    (true_or_false (nat_eq j i))
there_more (n ∷ numbers) i j = ⊎_elim
    (λ yes. ap is_some (head_here n j (numbers ++ i ∷ []) yes) ∙ sym (ap (λ o. is_some o || nat_eq j i) (head_here n j numbers yes)))
    (λ no. ap is_some (head_other n j (numbers ++ i ∷ []) no) ∙ map_none (place_in (numbers ++ i ∷ []) j) ∙ there_more numbers i j
    ∙ ap (λ b. b || nat_eq j i) (sym (map_none (place_in numbers j)) ∙ sym (ap is_some (head_other n j numbers no))))
    (true_or_false (nat_eq j n))

pub not_there : (p : Option ℕ) → is_some p ≡ false → p ≡ None
not_there None h = refl
not_there (Some n) h = absurd (cc)

-- a number that is none of these, nor the one more, has no place among all
pub none_more_place : (numbers : List ℕ) (i j : ℕ) → place_in numbers j ≡ None → nat_eq j i ≡ false → place_in (numbers ++ i ∷ []) j ≡ None
none_more_place numbers i j h fails = not_there (place_in (numbers ++ i ∷ []) j) (there_more numbers i j ∙ ap (λ p. is_some p || nat_eq j i) h ∙ fails)
