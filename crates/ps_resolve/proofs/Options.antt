-- Options that all hold something.
-- For: loops over parts that all read: in `expr`, `writes`, `parameters` and `read_definitions`
use Rattle.std.proofs.Common.{◌≡◌, ℕ, suc, ◌+◌, ◌<◌, List, [], ◌∷◌, ◌++◌, map, length, take, drop, get_or, Some, None, refl, sym, ap, ◌∙◌}
use Rattle.std.specs.Prelude.{Option}
use Rattle.std.proofs.lemmas.List.{take-append-drop, take_more, drop_more, map-append}
use Rattle.std.proofs.lemmas.Simd.{map-map}
use Rattle.ps_plain.specs.Forms.{all_some, and_also}
use Rattle.ps_plain.proofs.Lists.{joined}

pub length-all_some : {A : Type 0} (xs : List (Option A)) (ys : List A) → all_some xs ≡ Some ys → length xs ≡ length ys
length-all_some [] ys h = let e : ys ≡ [] = cc in ap length (sym e)
length-all_some (x ∷ xs) ys h =
    let p = joined x (all_some xs) ys h in
    ap (λ n. suc n) (length-all_some xs p.rest p.is_rest) ∙ ap length (sym p.is)

all_some-push : {A : Type 0} (xs : List (Option A)) (done : List A) (y : A) → all_some xs ≡ Some done → all_some (xs ++ Some y ∷ []) ≡ Some (done ++ y ∷ [])
all_some-push [] done y h = let e : done ≡ [] = cc in ap (λ z. Some (z ++ y ∷ [])) (sym e)
all_some-push (x ∷ xs) done y h =
    let p = joined x (all_some xs) done h in
    (λ i. and_also (p.is_first i) (all_some-push xs p.rest y p.is_rest i)) ∙ ap (λ z. Some (z ++ y ∷ [])) (sym p.is)

all_some-none : {A : Type 0} (xs zs : List (Option A)) → all_some (xs ++ None ∷ zs) ≡ None
all_some-none [] zs = refl
all_some-none (None ∷ xs) zs = refl
all_some-none (Some x ∷ xs) zs = ap (and_also (Some x)) (all_some-none xs zs)

-- the member behind those that are known
split : {A : Type 0} (xs zs : List (Option A)) (x : Option A) (done full : List A) → all_some xs ≡ Some done → all_some (xs ++ x ∷ zs) ≡ Some full → (y : A) × (rest : List A) × (x ≡ Some y) × (full ≡ done ++ y ∷ rest)
split [] zs x done full d h =
    let e : done ≡ [] = cc in
    let p = joined x (all_some zs) full h in
    (p.first, p.rest, p.is_first, p.is ∙ ap (λ z. z ++ p.first ∷ p.rest) (sym e))
split (w ∷ xs) zs x done full d h =
    let a = joined w (all_some xs) done d in
    let b = joined w (all_some (xs ++ x ∷ zs)) full h in
    let r = split xs zs x a.rest b.rest a.is_rest b.is_rest in
    let one : Some a.first ≡ Some b.first = sym a.is_first ∙ b.is_first in
    let same : a.first ≡ b.first = cc in
    (r.0, r.1, r.2, b.is ∙ (λ i. sym same i ∷ r.3 i) ∙ ap (λ z. z ++ r.0 ∷ r.1) (sym a.is))

-- a list around the place i, where d stands
pub around_place : {A B : Type 0} (h : A → B) (ds : List A) (i : ℕ) (d : A) → i < length ds → d ≡ get_or ds i d → map h ds ≡ map h (take i ds) ++ h d ∷ map h (drop (i + 1) ds)
around_place h ds i d within is =
    ap (map h) (sym (take-append-drop i ds) ∙ ap (λ z. take i ds ++ z) (drop_more ds i d within) ∙ ap (λ z. take i ds ++ z ∷ drop (i + 1) ds) (sym is))
    ∙ map-append h (take i ds) (d ∷ drop (i + 1) ds)

-- what a test says of the members of a list, where d is the one at the place i
module _ {A C : Type 0} (h : A → Option C) (ds : List A) (i : ℕ) (d : A) (within : i < length ds) (is : d ≡ get_or ds i d) where
  -- one more is something
  pub more : (done : List C) (y : C) → all_some (map h (take i ds)) ≡ Some done → h d ≡ Some y → all_some (map h (take (i + 1) ds)) ≡ Some (done ++ y ∷ [])
  more done y so_far e =
      ap (λ z. all_some (map h z)) (take_more ds i d within ∙ ap (λ z. take i ds ++ z ∷ []) (sym is))
      ∙ ap all_some (map-append h (take i ds) (d ∷ []))
      ∙ ap (λ z. all_some (map h (take i ds) ++ z ∷ [])) e
      ∙ all_some-push (map h (take i ds)) done y so_far

  -- one is nothing
  pub fails : h d ≡ None → all_some (map h ds) ≡ None
  fails e =
      ap all_some (around_place h ds i d within is)
      ∙ ap (λ z. all_some (map h (take i ds) ++ z ∷ map h (drop (i + 1) ds))) e
      ∙ all_some-none (map h (take i ds)) (map h (drop (i + 1) ds))

  -- the next of all
  pub next : (done full : List C) → all_some (map h (take i ds)) ≡ Some done → all_some (map h ds) ≡ Some full → (y : C) × (rest : List C) × (h d ≡ Some y) × (full ≡ done ++ y ∷ rest)
  next done full so_far all = split (map h (take i ds)) (map h (drop (i + 1) ds)) (h d) done full so_far (sym (ap all_some (around_place h ds i d within is)) ∙ all)

-- the same of two maps, one after the other
module _ {A B C : Type 0} (f : A → B) (g : B → Option C) (ds : List A) (i : ℕ) (d : A) (within : i < length ds) (is : d ≡ get_or ds i d) where
  one_map : (xs : List A) → all_some (map g (map f xs)) ≡ all_some (map (λ a. g (f a)) xs)
  one_map xs = ap all_some (map-map g f xs)

  pub one_more : (done : List C) (y : C) → all_some (map g (map f (take i ds))) ≡ Some done → g (f d) ≡ Some y → all_some (map g (map f (take (i + 1) ds))) ≡ Some (done ++ y ∷ [])
  one_more done y so_far e = one_map (take (i + 1) ds) ∙ more (λ a. g (f a)) ds i d within is done y (sym (one_map (take i ds)) ∙ so_far) e

  pub one_fails : g (f d) ≡ None → all_some (map g (map f ds)) ≡ None
  one_fails e = one_map ds ∙ fails (λ a. g (f a)) ds i d within is e

  pub split_at : (done full : List C) → all_some (map g (map f (take i ds))) ≡ Some done → all_some (map g (map f ds)) ≡ Some full → (y : C) × (rest : List C) × (g (f d) ≡ Some y) × (full ≡ done ++ y ∷ rest)
  split_at done full so_far all = next (λ a. g (f a)) ds i d within is done full (sym (one_map (take i ds)) ∙ so_far) (sym (one_map ds) ∙ all)
