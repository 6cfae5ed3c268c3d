-- Tables of texts over an index set.
-- For: Names::add, Names::find
use Rattle.std.proofs.Common.{◌≡◌, ℕ, zero, suc, ◌+◌, List, [], ◌∷◌, ◌++◌, length, map, Some, refl, sym, ap, ◌∙◌, subst, arith, Bool, true, false, not, cond, ◌||◌, ◌⊎◌, inl, inr, ⊎_elim}
use Rattle.std.proofs.Common.{Vec, Global}
use Rattle.std.specs.Prelude.{slice_get, nat_lt, if◌then◌else◌, None, ◌<◌}
use Rattle.std.specs.Option.{option_map}
use Rattle.std.specs.List.{list_any, find, position_or_len, position}
use Rattle.std.proofs.lemmas.Bool.{ltb-true, lt-ltb}
use Rattle.std.specs.Str.{bytes_eq}
use Rattle.std.proofs.lemmas.Slice.Eq.{bytes_eq-Decides}
use Rattle.ps_base.proofs.Choices.{true_or_false, or_false}
use Rattle.ps_base.specs.Names.{AreDistinct, IsNew, number_of}

-- what is found passes the test
pub find-passes : {X : Type 0} (p : X → Bool) (xs : List X) (x : X) → find p xs ≡ Some x → p x ≡ true
find-passes p [] x h = cc
find-passes p (y ∷ xs) x h =
    ⊎_elim
    (λ yes. let e : Some y ≡ Some x = sym (ap (λ t. cond t (Some y) (find p xs)) yes) ∙ h in let same : y ≡ x = cc in subst (λ z. p z ≡ true) same yes)
    (λ no. find-passes p xs x (sym (ap (λ t. cond t (Some y) (find p xs)) no) ∙ h))
    (true_or_false (p y))

-- where no member passes, the place is the list's length
pub none-passes : {X : Type 0} (p : X → Bool) (xs : List X) → list_any p xs ≡ false → position_or_len p xs ≡ length xs
none-passes p [] h = refl
none-passes p (y ∷ xs) h =
    ⊎_elim
    (λ yes. let e : true ≡ false = sym (ap (λ t. t || list_any p xs) yes) ∙ h in cc)
    (λ no.
    let rest = none-passes p xs (sym (ap (λ t. t || list_any p xs) no) ∙ h) in
    ap (λ t. cond (not t) (1 + position_or_len p xs) 0) no ∙ omega (arith, rest))
    (true_or_false (p y))

-- a text that no member equals is new
pub none-new : (keys : List (Vec ℕ Global)) (text : List ℕ) → list_any (λ k. bytes_eq text k.items) keys ≡ false → IsNew (map (λ k. k.items) keys) text
none-new [] text h zero e = cc
none-new [] text h (suc i) e = cc
none-new (k ∷ keys) text h zero e =
    let parts = or_false (bytes_eq text k.items) (list_any (λ k. bytes_eq text k.items) keys) h in
    let same : text ≡ k.items = cc in
    let yes = (bytes_eq-Decides text k.items).1 same in
    let no = parts.0 in
    cc
none-new (k ∷ keys) text h (suc i) e =
    let parts = or_false (bytes_eq text k.items) (list_any (λ k. bytes_eq text k.items) keys) h in
    none-new keys text parts.1 i e

front-or-last : (xs : List (List ℕ)) (y t : List ℕ) (i : ℕ) → slice_get (xs ++ y ∷ []) i ≡ Some t → (slice_get xs i ≡ Some t) ⊎ ((i ≡ length xs) × (t ≡ y))
front-or-last [] y t zero h = inr (refl, cc)
front-or-last [] y t (suc i) h = cc
front-or-last (x ∷ xs) y t zero h = inl h
front-or-last (x ∷ xs) y t (suc i) h = ⊎_elim (λ f. inl f) (λ l. inr (omega (arith, l.0), l.1)) (front-or-last xs y t i h)

-- a table with a new text at its end has distinct texts
pub distinct-more : (texts : List (List ℕ)) (text : List ℕ) → AreDistinct texts → IsNew texts text → AreDistinct (texts ++ text ∷ [])
distinct-more texts text d new i j t h k =
    ⊎_elim
    (λ a. ⊎_elim (λ b. d i j t a b) (λ b. absurd (new i (a ∙ ap (λ x. Some x) b.1))) (front-or-last texts text t j k))
    (λ a. ⊎_elim (λ b. absurd (new j (b ∙ ap (λ x. Some x) a.1))) (λ b. a.0 ∙ sym b.0) (front-or-last texts text t j k))
    (front-or-last texts text t i h)

not-below : (n len : ℕ) → nat_lt n len ≡ false → nat_lt (1 + n) (suc len) ≡ false
not-below n len h0 =
    ⊎_elim
    (λ yes. let lt : n < len = omega (arith, ltb-true (1 + n) (suc len) yes) in let e = lt-ltb n len lt in absurd (let clash : true ≡ false = sym e ∙ h0 in cc))
    (λ h. h)
    (true_or_false (nat_lt (1 + n) (suc len)))

-- the first place at which a text stands in a table
pub position-is : (keys : List (Vec ℕ Global)) (text : List ℕ) → position (λ k. bytes_eq text k.items) keys ≡ number_of (map (λ k. k.items) keys) text
position-is [] text = refl
position-is (k ∷ keys) text =
    let p : Vec ℕ Global → Bool = λ v. bytes_eq text v.items in
    let n = position_or_len p keys in
    ⊎_elim
    (λ yes. ap (λ t. cond (nat_lt (cond (not t) (1 + n) 0) (length (k ∷ keys))) (Some (cond (not t) (1 + n) 0)) None) yes ∙ ap (λ t. cond t (Some 0) None) (lt-ltb 0 (length (k ∷ keys)) (omega arith)) ∙ sym (ap (λ t. if t then Some 0 else option_map suc (number_of (map (λ v. v.items) keys) text)) yes))
    (λ no.
    let first : position p (k ∷ keys) ≡ cond (nat_lt (1 + n) (length (k ∷ keys))) (Some (1 + n)) None = ap (λ t. cond (nat_lt (cond (not t) (1 + n) 0) (length (k ∷ keys))) (Some (cond (not t) (1 + n) 0)) None) no in
    let last : number_of (map (λ v. v.items) (k ∷ keys)) text ≡ option_map suc (number_of (map (λ v. v.items) keys) text) = ap (λ t. if t then Some 0 else option_map suc (number_of (map (λ v. v.items) keys) text)) no in
    first ∙ later n (length keys) ∙ ap (option_map suc) (position-is keys text) ∙ sym last)
    (true_or_false (bytes_eq text k.items))
  where
    later : (n len : ℕ) → cond (nat_lt (1 + n) (suc len)) (Some (1 + n)) None ≡ option_map suc (cond (nat_lt n len) (Some n) None)
    later n len =
        let one : 1 + n ≡ suc n = omega arith in
        ⊎_elim
        (λ yes.
        let lt : 1 + n < suc len = omega (arith, ltb-true n len yes) in
        ap (λ t. cond t (Some (1 + n)) None) (lt-ltb (1 + n) (suc len) lt) ∙ ap Some one ∙ sym (ap (λ t. option_map suc (cond t (Some n) None)) yes))
        (λ no.
        ap (λ t. cond t (Some (1 + n)) None) (not-below n len no) ∙ sym (ap (λ t. option_map suc (cond t (Some n) None)) no))
        (true_or_false (nat_lt n len))
