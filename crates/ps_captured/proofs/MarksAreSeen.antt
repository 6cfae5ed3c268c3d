-- What is seen in marks is what they say of locals and lambdas.
-- For: `first_fixed_set` and `capture`
use Rattle.std.proofs.Common.{◌≡◌, ℕ, Bool, true, false, List, [], ◌∷◌, Option, Some, None, refl, ap, ◌∙◌}
use Rattle.std.specs.Prelude.{◌==◌, ◌||◌, ◌&&◌, not, if◌then◌else◌}
use Rattle.std.specs.List.{fold, list_any}
use Rattle.std.proofs.lemmas.Bool.{eqb-true}
use Rattle.ps_base.specs.declared.faults.Place.{Place}
use Rattle.ps_kernel.specs.Lists.{stands_in}
use Rattle.ps_kernel.specs.Marks.{Mark, Node, TooDeep, Stands, BindsParameter, BindsLet, BindsEntry, Mentions, Sets, Reads, Assigns, Quotes, Sequence, Replaces, Performs, Chooses}
use Rattle.ps_kernel.specs.Texts.{named, bound, entries, standing}
use Rattle.ps_captured.specs.FixedSets.{first_set}
use Rattle.ps_captured.specs.InsideReading.{Sight, Stood, Bound, Entered, Mentioned, Assigned, seen_in, bound_there, entered_there, named_there, stood_there, is_assigned}
use Rattle.ps_captured.specs.InsideTables.{with_local, with_bound, with_entered, with_other, with_free, first_among}
use Rattle.ps_captured.proofs.SetsHold.{holds}

pub bounds : (here : Place) (ms : List Mark) → bound_there (seen_in here ms) ≡ bound ms
bounds here [] = refl
bounds here (Node there ∷ ms) = bounds there ms
bounds here (TooDeep ∷ ms) = bounds here ms
bounds here (Stands l g ∷ ms) = bounds here ms
bounds here (BindsParameter x ∷ ms) = ap (λ (xs : List ℕ). x ∷ xs) (bounds here ms)
bounds here (BindsLet x ∷ ms) = ap (λ (xs : List ℕ). x ∷ xs) (bounds here ms)
bounds here (BindsEntry e ∷ ms) = ap (λ (xs : List ℕ). e.local ∷ xs) (bounds here ms)
bounds here (Mentions x scope ∷ ms) = bounds here ms
bounds here (Sets x scope ∷ ms) = bounds here ms
bounds here (Reads at g ∷ ms) = bounds here ms
bounds here (Assigns at g ∷ ms) = bounds here ms
bounds here (Quotes at q ∷ ms) = bounds here ms
bounds here (Sequence n ∷ ms) = bounds here ms
bounds here (Replaces tail ∷ ms) = bounds here ms
bounds here (Performs at p n ∷ ms) = bounds here ms
bounds here (Chooses kind bs ∷ ms) = bounds here ms

pub enters : (here : Place) (ms : List Mark) → entered_there (seen_in here ms) ≡ entries ms
enters here [] = refl
enters here (Node there ∷ ms) = enters there ms
enters here (TooDeep ∷ ms) = enters here ms
enters here (Stands l g ∷ ms) = enters here ms
enters here (BindsParameter x ∷ ms) = enters here ms
enters here (BindsLet x ∷ ms) = enters here ms
enters here (BindsEntry e ∷ ms) = ap (λ (xs : List ℕ). e.local ∷ xs) (enters here ms)
enters here (Mentions x scope ∷ ms) = enters here ms
enters here (Sets x scope ∷ ms) = enters here ms
enters here (Reads at g ∷ ms) = enters here ms
enters here (Assigns at g ∷ ms) = enters here ms
enters here (Quotes at q ∷ ms) = enters here ms
enters here (Sequence n ∷ ms) = enters here ms
enters here (Replaces tail ∷ ms) = enters here ms
enters here (Performs at p n ∷ ms) = enters here ms
enters here (Chooses kind bs ∷ ms) = enters here ms

pub names : (here : Place) (ms : List Mark) → named_there (seen_in here ms) ≡ named ms
names here [] = refl
names here (Node there ∷ ms) = names there ms
names here (TooDeep ∷ ms) = names here ms
names here (Stands l g ∷ ms) = names here ms
names here (BindsParameter x ∷ ms) = names here ms
names here (BindsLet x ∷ ms) = names here ms
names here (BindsEntry e ∷ ms) = names here ms
names here (Mentions x scope ∷ ms) = ap (λ (xs : List ℕ). x ∷ xs) (names here ms)
names here (Sets x scope ∷ ms) = ap (λ (xs : List ℕ). x ∷ xs) (names here ms)
names here (Reads at g ∷ ms) = names here ms
names here (Assigns at g ∷ ms) = names here ms
names here (Quotes at q ∷ ms) = names here ms
names here (Sequence n ∷ ms) = names here ms
names here (Replaces tail ∷ ms) = names here ms
names here (Performs at p n ∷ ms) = names here ms
names here (Chooses kind bs ∷ ms) = names here ms

pub stands : (here : Place) (ms : List Mark) → stood_there (seen_in here ms) ≡ standing ms
stands here [] = refl
stands here (Node there ∷ ms) = stands there ms
stands here (TooDeep ∷ ms) = stands here ms
stands here (Stands l g ∷ ms) = ap (λ (xs : List ℕ). l ∷ xs) (stands here ms)
stands here (BindsParameter x ∷ ms) = stands here ms
stands here (BindsLet x ∷ ms) = stands here ms
stands here (BindsEntry e ∷ ms) = stands here ms
stands here (Mentions x scope ∷ ms) = stands here ms
stands here (Sets x scope ∷ ms) = stands here ms
stands here (Reads at g ∷ ms) = stands here ms
stands here (Assigns at g ∷ ms) = stands here ms
stands here (Quotes at q ∷ ms) = stands here ms
stands here (Sequence n ∷ ms) = stands here ms
stands here (Replaces tail ∷ ms) = stands here ms
stands here (Performs at p n ∷ ms) = stands here ms
stands here (Chooses kind bs ∷ ms) = stands here ms

pub firsts : (xs : List ℕ) (here : Place) (ms : List Mark) → first_among xs (seen_in here ms) ≡ first_set (λ x. stands_in x xs) here ms
firsts xs here [] = refl
firsts xs here (Node there ∷ ms) = firsts xs there ms
firsts xs here (TooDeep ∷ ms) = firsts xs here ms
firsts xs here (Stands l g ∷ ms) = firsts xs here ms
firsts xs here (BindsParameter x ∷ ms) = firsts xs here ms
firsts xs here (BindsLet x ∷ ms) = firsts xs here ms
firsts xs here (BindsEntry e ∷ ms) = firsts xs here ms
firsts xs here (Mentions x scope ∷ ms) = firsts xs here ms
firsts xs here (Sets x scope ∷ ms) = ap (λ (o : Option Place). if stands_in x xs then Some here else o) (firsts xs here ms)
firsts xs here (Reads at g ∷ ms) = firsts xs here ms
firsts xs here (Assigns at g ∷ ms) = firsts xs here ms
firsts xs here (Quotes at q ∷ ms) = firsts xs here ms
firsts xs here (Sequence n ∷ ms) = firsts xs here ms
firsts xs here (Replaces tail ∷ ms) = firsts xs here ms
firsts xs here (Performs at p n ∷ ms) = firsts xs here ms
firsts xs here (Chooses kind bs ∷ ms) = firsts xs here ms

-- ---- sets of what is seen

pub or_none : (b : Bool) → b ≡ (b || false)
or_none true = refl
or_none false = refl

swap : (a b c : Bool) → ((a || b) || c) ≡ (b || (a || c))
swap true true c = refl
swap true false c = refl
swap false true c = refl
swap false false c = refl

pub put_first : (y x : ℕ) (xs : List ℕ) (c : Bool) → (stands_in y (with_local xs x) || c) ≡ (stands_in y xs || ((y == x) || c))
put_first y x xs c = ap (λ (b : Bool). b || c) (holds y x xs) ∙ swap (y == x) (stands_in y xs) c

-- a local that was named is put in where it is not bound
pub put_other : (y x : ℕ) (bs xs : List ℕ) (c : Bool) → (stands_in y (with_other bs xs x) || (c && not (stands_in y bs))) ≡ (stands_in y xs || (((y == x) || c) && not (stands_in y bs)))
put_other y x bs xs c = by (stands_in x bs) refl (y == x) refl
  where
    taken : (s c n : Bool) → (s || (c && n)) ≡ (s || ((false || c) && n))
    taken s c n = refl

    gone : (s c : Bool) → (s || (c && false)) ≡ (s || (true && false))
    gone s true = refl
    gone s false = refl

    here : (s c : Bool) → ((true || s) || (c && true)) ≡ (s || (true && true))
    here true c = refl
    here false c = refl

    by : (b : Bool) → stands_in x bs ≡ b → (a : Bool) → (y == x) ≡ a → (stands_in y (if b then xs else with_local xs x) || (c && not (stands_in y bs))) ≡ (stands_in y xs || ((a || c) && not (stands_in y bs)))
    by true p true q = let is : stands_in y bs ≡ true = ap (λ (z : ℕ). stands_in z bs) (eqb-true y x q) ∙ p in rw is (gone (stands_in y xs) c)
    by true p false q = refl
    by false p true q = let is : stands_in y bs ≡ false = ap (λ (z : ℕ). stands_in z bs) (eqb-true y x q) ∙ p in rw (is, holds y x xs, q) (here (stands_in y xs) c)
    by false p false q = rw (holds y x xs, q) refl

pub holds_bound : (y : ℕ) (xs : List ℕ) (ss : List Sight) → stands_in y (fold with_bound xs ss) ≡ (stands_in y xs || stands_in y (bound_there ss))
holds_bound y xs [] = or_none (stands_in y xs)
holds_bound y xs (Stood l g ∷ ss) = holds_bound y xs ss
holds_bound y xs (Bound x ∷ ss) = holds_bound y (with_local xs x) ss ∙ put_first y x xs (stands_in y (bound_there ss))
holds_bound y xs (Entered x ∷ ss) = holds_bound y (with_local xs x) ss ∙ put_first y x xs (stands_in y (bound_there ss))
holds_bound y xs (Mentioned x ∷ ss) = holds_bound y xs ss
holds_bound y xs (Assigned at x ∷ ss) = holds_bound y xs ss

pub holds_entered : (y : ℕ) (xs : List ℕ) (ss : List Sight) → stands_in y (fold with_entered xs ss) ≡ (stands_in y xs || stands_in y (entered_there ss))
holds_entered y xs [] = or_none (stands_in y xs)
holds_entered y xs (Stood l g ∷ ss) = holds_entered y xs ss
holds_entered y xs (Bound x ∷ ss) = holds_entered y xs ss
holds_entered y xs (Entered x ∷ ss) = holds_entered y (with_local xs x) ss ∙ put_first y x xs (stands_in y (entered_there ss))
holds_entered y xs (Mentioned x ∷ ss) = holds_entered y xs ss
holds_entered y xs (Assigned at x ∷ ss) = holds_entered y xs ss

pub holds_free : (y : ℕ) (bs xs : List ℕ) (ss : List Sight) → stands_in y (fold (with_free bs) xs ss) ≡ (stands_in y xs || (stands_in y (named_there ss) && not (stands_in y bs)))
holds_free y bs xs [] = or_none (stands_in y xs)
holds_free y bs xs (Stood l g ∷ ss) = holds_free y bs xs ss
holds_free y bs xs (Bound x ∷ ss) = holds_free y bs xs ss
holds_free y bs xs (Entered x ∷ ss) = holds_free y bs xs ss
holds_free y bs xs (Mentioned x ∷ ss) = holds_free y bs (with_other bs xs x) ss ∙ put_other y x bs xs (stands_in y (named_there ss))
holds_free y bs xs (Assigned at x ∷ ss) = holds_free y bs (with_other bs xs x) ss ∙ put_other y x bs xs (stands_in y (named_there ss))

-- where nothing is assigned, none of these is
pub none_assigned : (xs : List ℕ) (ss : List Sight) → list_any is_assigned ss ≡ false → first_among xs ss ≡ None
none_assigned xs [] h = refl
none_assigned xs (Stood l g ∷ ss) h = none_assigned xs ss h
none_assigned xs (Bound x ∷ ss) h = none_assigned xs ss h
none_assigned xs (Entered x ∷ ss) h = none_assigned xs ss h
none_assigned xs (Mentioned x ∷ ss) h = none_assigned xs ss h
none_assigned xs (Assigned at x ∷ ss) h = absurd cc
