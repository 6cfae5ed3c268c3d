-- Names in tables, and what they are called by.
-- For: `add_new` and `add_procedure`
use Rattle.std.proofs.Common.{◌≡◌, ℕ, zero, suc, ◌<◌, List, [], ◌∷◌, ◌++◌, length, true, false, Some, None, refl, sym, ap, ◌∙◌, arith, subst, ⊎_elim, eq-eqb}
use Rattle.std.specs.Prelude.{Option, slice_get, is_some, not, if◌then◌else◌, nat_eq}
use Rattle.std.specs.Option.{option_map}
use Rattle.std.specs.Str.{bytes_eq}
use Rattle.std.proofs.lemmas.Slice.Eq.{bytes_eq-Decides}
use Rattle.std.proofs.lemmas.Bool.{ne_eqb}
use Rattle.ps_base.proofs.Choices.{true_or_false}
use Rattle.ps_base.specs.Names.{IsNew, Adds, number_of}
use Rattle.ps_resolve.specs.InsideHeads.{IsAdded}

pub is_some-map : {A B : Type 0} (f : A → B) (x : Option A) → is_some (option_map f x) ≡ is_some x
is_some-map f None = refl
is_some-map f (Some x) = refl

-- a text that stands in no place has no number
number-of_new : (texts : List (List ℕ)) (w : List ℕ) → IsNew texts w → number_of texts w ≡ None
number-of_new [] w new = refl
number-of_new (t ∷ texts) w new =
    ⊎_elim
    (λ yes. let same = (bytes_eq-Decides w t).0 yes in absurd (new 0 (ap Some (sym same))))
    (λ no. ap (λ b. if b then Some 0 else option_map suc (number_of texts w)) no ∙ ap (option_map suc) (number-of_new texts w (λ i. new (suc i))))
    (true_or_false (bytes_eq w t))

-- and one that stands in a place has one
number-of_known : (texts : List (List ℕ)) (w : List ℕ) (i : ℕ) → slice_get texts i ≡ Some w → is_some (number_of texts w) ≡ true
number-of_known [] w i is = cc
number-of_known (t ∷ texts) w zero is =
    let same : t ≡ w = cc in
    ap (λ b. is_some (if b then Some 0 else option_map suc (number_of texts w))) ((bytes_eq-Decides w t).1 (sym same))
number-of_known (t ∷ texts) w (suc i) is =
    ⊎_elim
    (λ yes. ap (λ b. is_some (if b then Some 0 else option_map suc (number_of texts w))) yes)
    (λ no. ap (λ b. is_some (if b then Some 0 else option_map suc (number_of texts w))) no ∙ is_some-map suc (number_of texts w) ∙ number-of_known texts w i is)
    (true_or_false (bytes_eq w t))

within : {A : Type 0} (xs : List A) (i : ℕ) (x : A) → slice_get xs i ≡ Some x → i < length xs
within [] i x h = cc
within (y ∷ xs) zero x h = omega arith
within (y ∷ xs) (suc i) x h = let r = within xs i x h in omega (arith, r)

not_equal : (m n : ℕ) → m < n → nat_eq m n ≡ false
not_equal m n lt = ne_eqb m n (λ e. omega arith)

-- a text was added where its number is the one behind the last
pub added : (old new : List (List ℕ)) (w : List ℕ) (number : ℕ) → Adds old new w number → IsAdded old new w (nat_eq number (length old))
added old new w number is =
    ⊎_elim
    (λ same.
    let known = subst (λ t. slice_get t number ≡ Some w) same is.stands in
    let no = not_equal number (length old) (within old number w known) in
    record {
      is_new = no ∙ sym (ap not (number-of_known old w number known));
      grown = same ∙ sym (ap (λ b. if b then old ++ w ∷ [] else old) no);
    })
    (λ more.
    let yes = eq-eqb number (length old) more.1 in
    record {
      is_new = yes ∙ sym (ap (λ n. not (is_some n)) (number-of_new old w more.2));
      grown = more.0 ∙ sym (ap (λ b. if b then old ++ w ∷ [] else old) yes);
    })
    is.grown
