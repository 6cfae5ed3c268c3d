-- What stands in the text of a group, and facts on all of it.
-- For: `groups_are_kept` and `settled_is_typing`
use Rattle.std.proofs.Common.{◌≡◌, ℕ, true, List, [], ◌∷◌, refl, sym, subst}
use Rattle.std.specs.Prelude.{◌==◌}
use Rattle.std.proofs.Common.{⊎_elim}
use Rattle.std.specs.List.{flat_map}
use Rattle.std.proofs.lemmas.Bool.{eq-eqb, eqb-true}
use Rattle.ps_kernel.specs.Lists.{stands_in, Each}
use Rattle.ps_kernel.proofs.NumbersStandInLists.{or_cases, or_left, or_right, in_left, in_right, in_append}

pub stands_first : (x : ℕ) (xs : List ℕ) → stands_in x (x ∷ xs) ≡ true
stands_first x xs = or_left (x == x) (stands_in x xs) (eq-eqb x x refl)

pub stands_later : (x y : ℕ) (xs : List ℕ) → stands_in x xs ≡ true → stands_in x (y ∷ xs) ≡ true
stands_later x y xs h = or_right (x == y) (stands_in x xs) h

-- what one member gives stands in what all give
pub in_flat : (f : ℕ → List ℕ) (ds : List ℕ) (d x : ℕ) → stands_in d ds ≡ true → stands_in x (f d) ≡ true → stands_in x (flat_map f ds) ≡ true
in_flat f [] d x h on = absurd cc
in_flat f (e ∷ ds) d x h on = ⊎_elim
    (λ (a : (d == e) ≡ true). in_left x (f e) (flat_map f ds) (subst (λ z. stands_in x (f z) ≡ true) (eqb-true d e a) on))
    (λ (b : stands_in d ds ≡ true). in_right x (f e) (flat_map f ds) (in_flat f ds d x b on))
    (or_cases (d == e) (stands_in d ds) h)

-- a member that gives it
pub record Gives (f : ℕ → List ℕ) (ds : List ℕ) (x : ℕ) : Type 0 where
  pub member : ℕ
  pub stands : stands_in member ds ≡ true
  pub gives : stands_in x (f member) ≡ true

pub of_flat : (f : ℕ → List ℕ) (ds : List ℕ) (x : ℕ) → stands_in x (flat_map f ds) ≡ true → Gives f ds x
of_flat f [] x h = absurd cc
of_flat f (e ∷ ds) x h = ⊎_elim
    (λ (a : stands_in x (f e) ≡ true). record { member = e; stands = stands_first e ds; gives = a })
    (λ (b : stands_in x (flat_map f ds) ≡ true). (let r = of_flat f ds x b in record { member = r.member; stands = stands_later r.member e ds r.stands; gives = r.gives }))
    (in_append x (f e) (flat_map f ds) h)

-- a fact on each member
pub each_from : (P : ℕ → Type 0) (xs : List ℕ) → ((x : ℕ) → stands_in x xs ≡ true → P x) → Each P xs
each_from P [] h = tt
each_from P (x ∷ xs) h = (h x (stands_first x xs), each_from P xs (λ y on. h y (stands_later y x xs on)))

pub each_at : (P : ℕ → Type 0) (xs : List ℕ) → Each P xs → (x : ℕ) → stands_in x xs ≡ true → P x
each_at P [] h x on = absurd cc
each_at P (y ∷ xs) h x on = ⊎_elim
    (λ (a : (x == y) ≡ true). subst P (sym (eqb-true x y a)) h.0)
    (λ (b : stands_in x xs ≡ true). each_at P xs h.1 x b)
    (or_cases (x == y) (stands_in x xs) on)
