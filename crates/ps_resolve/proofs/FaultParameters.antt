-- Parameters, one after another.
-- For: `parameters_fault`
use Rattle.std.proofs.Common.{◌≡◌, ℕ, suc, ◌+◌, ◌<◌, ◌≤◌, List, [], ◌∷◌, ◌++◌, map, length, take, drop, get_or, Bool, false, Some, None, refl, sym, ap, ◌∙◌, arith, add-one}
use Rattle.std.specs.Prelude.{Option, if◌then◌else◌, nat_lt}
use Rattle.std.proofs.lemmas.List.{take_more, drop_more, map-append, length-append}
use Rattle.std.proofs.lemmas.Bool.{lt-ltb}
use Rattle.ps_base.specs.declared.faults.Place.{Place}
use Rattle.ps_datum.specs.declared.datum.Datum.{Datum}
use Rattle.ps_plain.specs.Forms.{all_some, and_also}
use Rattle.ps_plain.specs.Faults.{Flaws, flaws, is_among, with_word, parameters_names}
use Rattle.ps_plain.proofs.Lists.{joined}
use Rattle.ps_resolve.specs.InsideHeads.{IsKnown, words_of}

-- the last of options that all hold something
record Last {A : Type 0} (xs : List (Option A)) (x : Option A) (ys : List A) : Type 0 where
  done : List A
  last : A
  is_done : all_some xs ≡ Some done
  is_last : x ≡ Some last
  is : ys ≡ done ++ last ∷ []

last_of : {A : Type 0} (xs : List (Option A)) (x : Option A) (ys : List A) → all_some (xs ++ x ∷ []) ≡ Some ys → Last xs x ys
last_of [] x ys h =
    let p = joined x (Some []) ys h in
    let none : [] ≡ p.rest = cc in
    record { done = []; last = p.first; is_done = refl; is_last = p.is_first; is = p.is ∙ ap (λ z. p.first ∷ z) (sym none) }
last_of (w ∷ xs) x ys h =
    let p = joined w (all_some (xs ++ x ∷ [])) ys h in
    let r = last_of xs x p.rest p.is_rest in
    record { done = p.first ∷ r.done; last = r.last; is_done = (λ i. and_also (p.is_first i) (r.is_done i)); is_last = r.is_last; is = p.is ∙ ap (λ z. p.first ∷ z) r.is }

longer : (old : List (List ℕ)) (w : Option (List ℕ)) → length (with_word old w) ≤ length old + 1
longer old None = omega arith
longer old (Some w) = omega (arith, length-append old (w ∷ []))

passes : (n : ℕ) (before : List (List ℕ)) (f : Flaws) (fs : List Flaws) → is_among before f.word ≡ false → n < 127 → parameters_names n before (f ∷ fs) ≡ parameters_names (suc n) (with_word before f.word) fs
passes n before f fs new room =
    ap (λ b. if b then Some f.place else (if nat_lt n 127 then parameters_names (suc n) (with_word before f.word) fs else Some f.place)) new
    ∙ ap (λ b. if b then parameters_names (suc n) (with_word before f.word) fs else Some f.place) (lt-ltb n 127 room)

-- one parameter more, which was not there
module _ (names : List (List ℕ)) (ds : List Datum) (i : ℕ) (d : Datum) (within : i < length ds) (is : d ≡ get_or ds i d) (old new : List (List ℕ)) (there : Bool) (known : IsKnown old new (flaws names d).word there) (absent : there ≡ false) where
  grown : new ≡ with_word old (flaws names d).word
  grown = known.grown absent

  pub next_fault : i < 127 → (r : Option Place) → parameters_names i old (map (flaws names) (drop i ds)) ≡ r → parameters_names (i + 1) new (map (flaws names) (drop (i + 1) ds)) ≡ r
  next_fault room r so_far =
      (λ j. parameters_names (add-one i j) (grown j) (map (flaws names) (drop (i + 1) ds)))
      ∙ sym (passes i old (flaws names d) (map (flaws names) (drop (i + 1) ds)) (sym known.is_there ∙ absent) room)
      ∙ ap (λ z. parameters_names i old (map (flaws names) (z ∷ drop (i + 1) ds))) is
      ∙ sym (ap (λ z. parameters_names i old (map (flaws names) z)) (drop_more ds i d within))
      ∙ so_far

  pub next_words : ((ws : List (List ℕ)) → words_of names (take i ds) ≡ Some ws → old ≡ ws) → (ws : List (List ℕ)) → words_of names (take (i + 1) ds) ≡ Some ws → new ≡ ws
  next_words so_far ws h =
      let front = map (λ (f : Flaws). f.word) (map (flaws names) (take i ds)) in
      let parts =
      ap (words_of names) (take_more ds i d within ∙ ap (λ z. take i ds ++ z ∷ []) (sym is))
      ∙ ap (λ z. all_some (map (λ (f : Flaws). f.word) z)) (map-append (flaws names) (take i ds) (d ∷ []))
      ∙ ap all_some (map-append (λ (f : Flaws). f.word) (map (flaws names) (take i ds)) (flaws names d ∷ [])) in
      let l = last_of front (flaws names d).word ws (sym parts ∙ h) in
      grown ∙ ap (with_word old) l.is_last ∙ ap (λ z. z ++ l.last ∷ []) (so_far l.done l.is_done) ∙ sym l.is

  pub next_few : length old ≤ i → length new ≤ i + 1
  next_few few = let e = ap length grown in omega (arith, e, longer old (flaws names d).word, few)
