-- Which nodes stand in a list, as it grows.
-- For: each law of walks
use Rattle.std.proofs.Common.{◌≡◌, Bool, true, false, List, [], ◌∷◌, ◌++◌, refl, sym, ap, ◌∙◌, inl, inr, ⊎_elim}
use Rattle.std.specs.Prelude.{◌⊎◌, ◌||◌}
use Rattle.std.proofs.lemmas.Bool.{eq-eqb, eqb-true}
use Rattle.ps_survive.specs.declared.steps.Node.{Node}
use Rattle.ps_survive.specs.declared.steps.Node.TheVariants as nodes
use Rattle.ps_kernel.specs.Lists.{Among}
use Rattle.ps_survive.specs.Steps.{same, has, AreOnce}

pub in_left : {A : Type 0} (xs ys : List A) (x : A) → Among x xs → Among x (xs ++ ys)
in_left [] ys x h = absurd h
in_left (y ∷ xs) ys x h = ⊎_elim (λ (e : x ≡ y). inl e) (λ (k : Among x xs). inr (in_left xs ys x k)) h

pub in_right : {A : Type 0} (xs ys : List A) (x : A) → Among x ys → Among x (xs ++ ys)
in_right [] ys x h = h
in_right (y ∷ xs) ys x h = inr (in_right xs ys x h)

pub in_either : {A : Type 0} (xs ys : List A) (x : A) → Among x (xs ++ ys) → Among x xs ⊎ Among x ys
in_either [] ys x h = inr h
in_either (y ∷ xs) ys x h = ⊎_elim (λ (e : x ≡ y). inl (inl e)) (λ (k : Among x (xs ++ ys)). ⊎_elim (λ (q : Among x xs). inl (inr q)) (λ (q : Among x ys). inr q) (in_either xs ys x k)) h

-- ---- the same node

pub same_self : (n : Node) → same n n ≡ true
same_self (nodes.Global g) = eq-eqb g g refl
same_self (nodes.Inner l) = eq-eqb l l refl
same_self (nodes.Data b) = eq-eqb b b refl

pub same_is : (n k : Node) → same n k ≡ true → n ≡ k
same_is (nodes.Global g) (nodes.Global h) e = ap nodes.Global (eqb-true g h e)
same_is (nodes.Inner g) (nodes.Inner h) e = ap nodes.Inner (eqb-true g h e)
same_is (nodes.Data g) (nodes.Data h) e = ap nodes.Data (eqb-true g h e)
same_is (nodes.Global g) (nodes.Inner h) e = absurd cc
same_is (nodes.Global g) (nodes.Data h) e = absurd cc
same_is (nodes.Inner g) (nodes.Global h) e = absurd cc
same_is (nodes.Inner g) (nodes.Data h) e = absurd cc
same_is (nodes.Data g) (nodes.Global h) e = absurd cc
same_is (nodes.Data g) (nodes.Inner h) e = absurd cc

-- a test is true or false
pub either : (b : Bool) → (b ≡ true) ⊎ (b ≡ false)
either true = inl refl
either false = inr refl

pub or_true : (a b : Bool) → (a || b) ≡ true → (a ≡ true) ⊎ (b ≡ true)
or_true true b e = inl refl
or_true false b e = inr e

pub or_false : (a b : Bool) → (a || b) ≡ false → (a ≡ false) × (b ≡ false)
or_false true b e = absurd cc
or_false false b e = (refl, e)

pub or_right : (a b : Bool) → b ≡ true → (a || b) ≡ true
or_right true b e = refl
or_right false b e = e

pub or_left : (a b : Bool) → a ≡ true → (a || b) ≡ true
or_left a b e = ap (λ x. x || b) e

-- ---- nodes in a list

pub has_left : (xs ys : List Node) (n : Node) → has xs n ≡ true → has (xs ++ ys) n ≡ true
has_left [] ys n e = absurd cc
has_left (x ∷ xs) ys n e = ⊎_elim (λ (h : same x n ≡ true). or_left (same x n) (has (xs ++ ys) n) h) (λ (h : has xs n ≡ true). or_right (same x n) (has (xs ++ ys) n) (has_left xs ys n h)) (or_true (same x n) (has xs n) e)

pub has_last : (xs : List Node) (n : Node) → has (xs ++ n ∷ []) n ≡ true
has_last [] n = or_left (same n n) false (same_self n)
has_last (x ∷ xs) n = or_right (same x n) (has (xs ++ n ∷ []) n) (has_last xs n)

pub has_pushed : (xs : List Node) (k n : Node) → has (xs ++ k ∷ []) n ≡ true → (has xs n ≡ true) ⊎ (n ≡ k)
has_pushed [] k n e = ⊎_elim (λ (h : same k n ≡ true). inr (sym (same_is k n h))) (λ (h : false ≡ true). absurd cc) (or_true (same k n) false e)
has_pushed (x ∷ xs) k n e =
    ⊎_elim
    (λ (h : same x n ≡ true). inl (or_left (same x n) (has xs n) h))
    (λ (h : has (xs ++ k ∷ []) n ≡ true). ⊎_elim (λ (q : has xs n ≡ true). inl (or_right (same x n) (has xs n) q)) (λ (q : n ≡ k). inr q) (has_pushed xs k n h))
    (or_true (same x n) (has (xs ++ k ∷ []) n) e)

-- a node that is not there is another
pub has_other : (xs : List Node) (k n : Node) → has xs n ≡ false → (n ≡ k → ⊥) → has (xs ++ k ∷ []) n ≡ false
has_other xs k n e other =
    ⊎_elim
    (λ (h : has (xs ++ k ∷ []) n ≡ true). absurd (⊎_elim (λ (q : has xs n ≡ true). (let clash : true ≡ false = sym q ∙ e in cc)) (λ (q : n ≡ k). other q) (has_pushed xs k n h)))
    (λ (h : has (xs ++ k ∷ []) n ≡ false). h)
    (either (has (xs ++ k ∷ []) n))

pub once_pushed : (xs : List Node) (n : Node) → AreOnce xs → has xs n ≡ false → AreOnce (xs ++ n ∷ [])
once_pushed [] n h e = (refl, tt)
once_pushed (x ∷ xs) n h e =
    let parts = or_false (same x n) (has xs n) e in
    let other : x ≡ n → ⊥ = (λ (q : x ≡ n). (let clash : true ≡ false = sym (same_self x) ∙ ap (λ z. same x z) q ∙ parts.0 in cc)) in
    (has_other xs n x h.0 other, once_pushed xs n h.1 parts.1)
