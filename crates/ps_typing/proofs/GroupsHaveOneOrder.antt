-- A graph has one order of groups at most.
-- For: `one_order`
use Rattle.std.proofs.Common.{◌≡◌, ℕ, ◌<◌, Bool, true, false, List, [], ◌∷◌, ◌++◌, refl, sym, ap, ◌∙◌, subst, arith}
use Rattle.std.specs.Prelude.{◌==◌, ◌||◌}
use Rattle.std.proofs.Common.{⊎_elim}
use Rattle.std.proofs.lemmas.Bool.{eqb-true}
use Rattle.ps_kernel.specs.Captured.{Ascends}
use Rattle.ps_kernel.specs.Lists.{stands_in}
use Rattle.ps_kernel.proofs.NumbersStandInLists.{or_cases, is_false}
use Rattle.ps_typing.specs.Order.{Graph, Together, IsNext, ordered}
use Rattle.ps_typing.specs.Laws.{OneOrder}
use Rattle.ps_typing.proofs.TextsOfGroups.{stands_first}

-- ---- lists that ascend

tail_ascends : (x : ℕ) (xs : List ℕ) → Ascends (x ∷ xs) → Ascends xs
tail_ascends x [] h = tt
tail_ascends x (y ∷ ys) h = h.1

above : (x e : ℕ) (xs : List ℕ) → Ascends (x ∷ xs) → stands_in e xs ≡ true → x < e
above x e [] h on = absurd cc
above x e (y ∷ ys) h on = ⊎_elim
    (λ (a : (e == y) ≡ true). (let same = eqb-true e y a in omega (arith, h.0)))
    (λ (b : stands_in e ys ≡ true). (let more = above y e ys h.1 b in omega (arith, h.0)))
    (or_cases (e == y) (stands_in e ys) on)

same_first : (x y : ℕ) (xs ys : List ℕ) → Ascends (x ∷ xs) → Ascends (y ∷ ys) → ((e : ℕ) → stands_in e (x ∷ xs) ≡ stands_in e (y ∷ ys)) → x ≡ y
same_first x y xs ys hx hy h = ⊎_elim
    (λ (a : (x == y) ≡ true). eqb-true x y a)
    (λ (b : stands_in x ys ≡ true). ⊎_elim
    (λ (c : (y == x) ≡ true). sym (eqb-true y x c))
    (λ (d : stands_in y xs ≡ true). (let p = above y x ys hy b in let q = above x y xs hx d in absurd (omega arith)))
    (or_cases (y == x) (stands_in y xs) (h y ∙ stands_first y ys)))
    (or_cases (x == y) (stands_in x ys) (sym (h x) ∙ stands_first x xs))

pub same_list : (xs ys : List ℕ) → Ascends xs → Ascends ys → ((e : ℕ) → stands_in e xs ≡ stands_in e ys) → xs ≡ ys
same_list [] [] hx hy h = refl
same_list [] (y ∷ ys) hx hy h = let clash = h y ∙ stands_first y ys in absurd cc
same_list (x ∷ xs) [] hx hy h = let clash = sym (h x) ∙ stands_first x xs in absurd cc
same_list (x ∷ xs) (y ∷ ys) hx hy h =
    let e = same_first x y xs ys hx hy h in
    ap (λ z. z ∷ xs) e ∙ ap (λ zs. y ∷ zs) (same_list xs ys (tail_ascends x xs hx) (tail_ascends y ys hy) (λ z. rest z e))
  where
    off : (a b c d : Bool) → (a || c) ≡ (b || d) → a ≡ b → (a ≡ true → c ≡ false) → (b ≡ true → d ≡ false) → c ≡ d
    off true b c d w e f g = f refl ∙ sym (g (sym e))
    off false b c d w e f g = w ∙ ap (λ z. z || d) (sym e)

    rest : (z : ℕ) → (x ≡ y) → stands_in z xs ≡ stands_in z ys
    rest z e = off (z == x) (z == y) (stands_in z xs) (stands_in z ys) (h z) (ap (λ w. z == w) e)
        (λ is. is_false (stands_in z xs) (λ on. (let p = above x z xs hx on in let same = eqb-true z x is in absurd (omega arith))))
        (λ is. is_false (stands_in z ys) (λ on. (let p = above y z ys hy on in let same = eqb-true z y is in absurd (omega arith))))

-- ---- one order

same_truth : (a b : Bool) → (a ≡ true → b ≡ true) → (b ≡ true → a ≡ true) → a ≡ b
same_truth true b f g = sym (f refl)
same_truth false true f g = g refl
same_truth false false f g = refl

same_next : (g : Graph) (listed a b : List ℕ) → IsNext g listed a → IsNext g listed b → a ≡ b
same_next g listed a b p q =
    let below = p.least q.lowest q.ready in
    let over = q.least p.lowest p.ready in
    let e : p.lowest ≡ q.lowest = omega arith in
    same_list a b p.ascending q.ascending (λ z. same_truth (stands_in z a) (stands_in z b)
    (λ on. (q.members z).1 (subst (λ x. Together g x z) e ((p.members z).0 on)))
    (λ on. (p.members z).1 (subst (λ x. Together g x z) (sym e) ((q.members z).0 on))))

not_both : (b : Bool) → b ≡ true → b ≡ false → ⊥
not_both b t f = let clash = sym t ∙ f in cc

same_order : (g : Graph) (more bs : List (List ℕ)) (listed : List ℕ) → ordered g listed more → ordered g listed bs → more ≡ bs
same_order g [] [] listed p q = refl
same_order g [] (b ∷ bs) listed p q = absurd (not_both (stands_in q.0.lowest listed) (p q.0.lowest q.0.ready.node) q.0.ready.unlisted)
same_order g (a ∷ more) [] listed p q = absurd (not_both (stands_in p.0.lowest listed) (q p.0.lowest p.0.ready.node) p.0.ready.unlisted)
same_order g (a ∷ more) (b ∷ bs) listed p q =
    let e = same_next g listed a b p.0 q.0 in
    ap (λ z. z ∷ more) e ∙ ap (λ zs. b ∷ zs) (same_order g more bs (b ++ listed) (subst (λ z. ordered g (z ++ listed) more) e p.1) q.1)

pub one_order : OneOrder
one_order g a b p q = same_order g a b [] p.order q.order
