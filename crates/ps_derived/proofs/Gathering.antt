-- What a loop has gathered, seen through its references.
-- For: idents_in, bindings_in, loop_bindings_in, macros_in, fields_in, variables_of, loop_variables_of, keywords_of, names_of
use Rattle.std.proofs.Common.{◌≡◌, ℕ, zero, suc, ◌+◌, arith, List, [], ◌∷◌, ◌++◌, map, take, ap, sym, ◌∙◌, Option, Some, rules}
use Rattle.std.specs.Prelude.{slice_get}
use Rattle.std.proofs.lemmas.List.{map-append}
use Rattle.ps_pattern.specs.Matching.{collect}
use Rattle.ps_pattern.proofs.Lists.{collect_kept}
use Rattle.ps_pattern.proofs.Rests.{some_is}

module _ {A B C : Type 0} (g : A → Option C) (see : B → C) where
  pub seen_kept : (fs : List A) (i : ℕ) (f : A) (rows : List B) (row : B) (new : List B) → slice_get fs i ≡ Some f → collect (map g (take i fs)) ≡ Some (map see rows) → g f ≡ Some (see row) → new ≡ rows ++ row ∷ [] → collect (map g (take (i + 1) fs)) ≡ Some (map see new)
  seen_kept fs i f rows row new e inv k is = collect_kept g fs i f (map see rows) (see row) (map see new) e inv k (ap (map see) is ∙ map-append see rows (row ∷ []))

take_next : {A : Type 0} (xs : List A) (i : ℕ) (x : A) → slice_get xs i ≡ Some x → take (suc i) xs ≡ take i xs ++ x ∷ []
take_next [] i x e = search rules
take_next (y ∷ xs) zero x e = ap (λ z. z ∷ []) (some_is e)
take_next (y ∷ xs) (suc i) x e = ap (λ z. y ∷ z) (take_next xs i x e)

module _ {A B C D : Type 0} (see : A → B) (name : B → C) (look : D → C) where
  -- one name more
  pub named : (xs : List A) (i : ℕ) (x : A) (ids new : List D) (id : D) → slice_get xs i ≡ Some x → map look ids ≡ map name (map see (take i xs)) → look id ≡ name (see x) → new ≡ ids ++ id ∷ [] → map look new ≡ map name (map see (take (i + 1) xs))
  named xs i x ids new id e inv k is =
      let one : i + 1 ≡ suc i = omega arith in
      let here : map look (id ∷ []) ≡ map name (map see (x ∷ [])) = ap (λ z. z ∷ []) k in
      let there : map name (map see (take (i + 1) xs)) ≡ map name (map see (take i xs)) ++ map name (map see (x ∷ [])) =
      ap (λ n. map name (map see (take n xs))) one ∙ ap (λ z. map name (map see z)) (take_next xs i x e) ∙ ap (map name) (map-append see (take i xs) (x ∷ [])) ∙ map-append name (map see (take i xs)) (map see (x ∷ [])) in
      ap (map look) is ∙ map-append look ids (id ∷ []) ∙ ap (λ z. z ++ map look (id ∷ [])) inv ∙ ap (λ z. map name (map see (take i xs)) ++ z) here ∙ sym there
