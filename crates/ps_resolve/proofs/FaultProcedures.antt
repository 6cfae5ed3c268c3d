-- The table of the procedures that definitions define.
-- For: `add_procedure` and `procedures_of`
use Rattle.std.proofs.Common.{◌≡◌, ℕ, suc, ◌+◌, List, [], ◌∷◌, ◌++◌, map, length, Bool, true, false, Some, None, refl, sym, ap, ◌∙◌, arith, ⊎_elim}
use Rattle.std.specs.Prelude.{Option, slice_get, is_some, not, if◌then◌else◌}
use Rattle.std.specs.Option.{option_map}
use Rattle.std.specs.Str.{bytes_eq}
use Rattle.std.proofs.lemmas.Slice.Eq.{bytes_eq-Decides}
use Rattle.std.proofs.lemmas.List.{map-append, length-append, length-map}
use Rattle.ps_base.specs.Names.{number_of}
use Rattle.ps_base.proofs.Choices.{true_or_false}
use Rattle.ps_plain.specs.Forms.{Head, all_some, names_in, arities_in}
use Rattle.ps_plain.specs.Faults.{Flaws, flaws}
use Rattle.ps_plain.proofs.Lists.{joined}
use Rattle.ps_resolve.specs.declared.faults.DefinitionParts.{DefinitionParts}
use Rattle.ps_resolve.specs.declared.faults.Procedures.{Procedures}
use Rattle.ps_resolve.specs.InsideHeads.{IsAdded, IsHeadOf, Knows, arity_at}
use Rattle.ps_resolve.proofs.FaultTables.{is_some-map}

length-all_some : {A : Type 0} (xs : List (Option A)) (ys : List A) → all_some xs ≡ Some ys → length xs ≡ length ys
length-all_some [] ys h = let e : ys ≡ [] = cc in ap length (sym e)
length-all_some (x ∷ xs) ys h =
    let p = joined x (all_some xs) ys h in
    ap (λ n. suc n) (length-all_some xs p.rest p.is_rest) ∙ ap length (sym p.is)

-- as many parameters as the head has
pub length-parameters : (names : List (List ℕ)) (h : Head) (x : DefinitionParts) → IsHeadOf names h x → length x.parameters.now ≡ length h.parameters
length-parameters names h x is =
    sym (length-map (map (flaws names) x.parameters.now) (λ (f : Flaws). f.word) ∙ length-map x.parameters.now (flaws names))
    ∙ length-all_some (map (λ (f : Flaws). f.word) (map (flaws names) x.parameters.now)) h.parameters is.parameters

-- ---- one name more

abbrev else_arity : Option (Option ℕ) → Option (Option ℕ) → Option (Option ℕ)
else_arity None other = other
else_arity (Some m) other = Some m

-- what one name tells
abbrev told : List ℕ → ℕ → List ℕ → Option (Option ℕ)
told x n w = if bytes_eq w x then Some (Some n) else None

by_first : (a : ℕ) (arities : List ℕ) (b : Bool) (m : Option ℕ) → option_map (slice_get (a ∷ arities)) (if b then Some 0 else option_map suc m) ≡ (if b then Some (Some a) else option_map (slice_get arities) m)
by_first a arities true m = refl
by_first a arities false None = refl
by_first a arities false (Some i) = refl

behind_first : (b : Bool) (m : Option ℕ) (one rest : Option (Option ℕ)) → else_arity (if b then Some m else one) rest ≡ (if b then Some m else else_arity one rest)
behind_first true m one rest = refl
behind_first false m one rest = refl

one_more : (ps : List (List ℕ)) (arities : List ℕ) (x : List ℕ) (n : ℕ) (w : List ℕ) → length ps ≡ length arities → arity_at (ps ++ x ∷ []) (arities ++ n ∷ []) w ≡ else_arity (arity_at ps arities w) (told x n w)
one_more [] [] x n w long = by_first n [] (bytes_eq w x) None
one_more [] (a ∷ arities) x n w long = absurd (omega arith)
one_more (p ∷ ps) [] x n w long = absurd (omega arith)
one_more (p ∷ ps) (a ∷ arities) x n w long =
    by_first a (arities ++ n ∷ []) (bytes_eq w p) (number_of (ps ++ x ∷ []) w)
    ∙ ap (λ z. if bytes_eq w p then Some (Some a) else z) (one_more ps arities x n w (omega arith))
    ∙ sym (behind_first (bytes_eq w p) (Some a) (arity_at ps arities w) (told x n w))
    ∙ ap (λ z. else_arity z (told x n w)) (sym (by_first a arities (bytes_eq w p) (number_of ps w)))

-- one head more
head_more : (heads : List Head) (h : Head) (w : List ℕ) → arity_at (names_in (heads ++ h ∷ [])) (arities_in (heads ++ h ∷ [])) w ≡ else_arity (arity_at (names_in heads) (arities_in heads) w) (told h.name (length h.parameters) w)
head_more heads h w =
    (λ i. arity_at (map-append (λ (g : Head). g.name) heads (h ∷ []) i) (map-append (λ (g : Head). length g.parameters) heads (h ∷ []) i) w)
    ∙ one_more (names_in heads) (arities_in heads) h.name (length h.parameters) w (length-map heads (λ (g : Head). g.name) ∙ sym (length-map heads (λ (g : Head). length g.parameters)))

no_more : (a : Option (Option ℕ)) → else_arity a None ≡ a
no_more None = refl
no_more (Some m) = refl

known_before : (a other : Option (Option ℕ)) → is_some a ≡ true → else_arity a other ≡ a
known_before None other some = absurd cc
known_before (Some m) other some = refl

not_false : (b : Bool) → false ≡ not b → b ≡ true
not_false true h = refl
not_false false h = absurd cc

module _ (heads : List Head) (h : Head) (t : Procedures) (names : List (List ℕ)) (x : DefinitionParts) (knows : Knows heads t) (is : IsHeadOf names h x) (new : List (List ℕ)) (added : Bool) (adds : IsAdded t.names new x.name.now added) where
  -- of a new name
  pub knows_new : (arities : List ℕ) → added ≡ true → arities ≡ t.arities ++ length x.parameters.now ∷ [] → Knows (heads ++ h ∷ []) (record { names = new; arities = arities })
  knows_new arities is_added more =
      let grown : new ≡ t.names ++ x.name.now ∷ [] = adds.grown ∙ ap (λ b. if b then t.names ++ x.name.now ∷ [] else t.names) is_added in
      record {
        same = λ w.
            (λ i. arity_at (grown i) (more i) w)
            ∙ one_more t.names t.arities x.name.now (length x.parameters.now) w knows.long
            ∙ (λ i. else_arity (knows.same w i) (told (sym is.name i) (length-parameters names h x is i) w))
            ∙ sym (head_more heads h w);
        long = ap length grown ∙ length-append t.names (x.name.now ∷ []) ∙ ap (λ n. n + 1) knows.long ∙ sym (length-append t.arities (length x.parameters.now ∷ [])) ∙ ap length (sym more);
      }

  -- of one that was there
  pub knows_old : added ≡ false → Knows (heads ++ h ∷ []) (record { names = new; arities = t.arities })
  knows_old old =
      let kept : new ≡ t.names = adds.grown ∙ ap (λ b. if b then t.names ++ x.name.now ∷ [] else t.names) old in
      let there = not_false (is_some (number_of t.names x.name.now)) (sym old ∙ adds.is_new) in
      record {
        same = λ w.
            ap (λ z. arity_at z t.arities w) kept
            ∙ knows.same w
            ∙ sym (before w there)
            ∙ sym (head_more heads h w);
        long = ap length kept ∙ knows.long;
      }
    where
      before : (w : List ℕ) → is_some (number_of t.names x.name.now) ≡ true → else_arity (arity_at (names_in heads) (arities_in heads) w) (told h.name (length h.parameters) w) ≡ arity_at (names_in heads) (arities_in heads) w
      before w there =
          let a = arity_at (names_in heads) (arities_in heads) w in
          ⊎_elim
          (λ yes.
          let same = (bytes_eq-Decides w h.name).0 yes ∙ is.name in
          known_before a (told h.name (length h.parameters) w) (ap is_some (sym (knows.same w)) ∙ is_some-map (slice_get t.arities) (number_of t.names w) ∙ ap (λ z. is_some (number_of t.names z)) same ∙ there))
          (λ different. ap (λ b. else_arity a (if b then Some (Some (length h.parameters)) else None)) different ∙ no_more a)
          (true_or_false (bytes_eq w h.name))
