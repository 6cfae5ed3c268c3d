-- Definitions: their parts, and bodies, of which the value comes last.
-- For: `definition_list_shape`, `body_shape`, `body_names` and `head_and_body`
use Rattle.std.proofs.Common.{◌≡◌, ℕ, ◌-◌, ◌≤◌, List, [], ◌∷◌, ◌++◌, map, length, take, drop, get_or, false, Some, None, refl, sym, ap, ◌∙◌, arith}
use Rattle.std.specs.Prelude.{Option, ◌==◌}
use Rattle.std.proofs.lemmas.List.{map-append, take_rest}
use Rattle.ps_base.specs.declared.faults.Place.{Place}
use Rattle.ps_datum.specs.declared.datum.Datum.{Datum}
use Rattle.ps_plain.specs.Faults.{Flaws, flaws, or_else, body_shape, body_names, defined_shape, definition_list_shape}
use Rattle.ps_plain.specs.declared.program.Keyword.{Keyword}
use Rattle.ps_plain.specs.Forms.{Scope, keyword_in}
use Rattle.ps_resolve.specs.InsideKinds.{write_shapes}
use Rattle.ps_resolve.specs.InsideNameTables.{writes_names}

or_else-assoc : (a b c : Option Place) → or_else a (or_else b c) ≡ or_else (or_else a b) c
or_else-assoc None b c = refl
or_else-assoc (Some p) b c = refl

shape_is : (fs : List Flaws) (f : Flaws) → body_shape (fs ++ f ∷ []) ≡ or_else (write_shapes fs) f.expr_shape
shape_is [] f = refl
shape_is (g ∷ []) f = ap (or_else g.write_shape) (shape_is [] f) ∙ or_else-assoc g.write_shape None f.expr_shape
shape_is (g ∷ h ∷ fs) f = ap (or_else g.write_shape) (shape_is (h ∷ fs) f) ∙ or_else-assoc g.write_shape (write_shapes (h ∷ fs)) f.expr_shape

-- the shape of a body, of which the value comes last
pub body_is : (names : List (List ℕ)) (body front : List Datum) (last : Datum) → body ≡ front ++ last ∷ [] → body_shape (map (flaws names) body) ≡ or_else (write_shapes (map (flaws names) front)) (flaws names last).expr_shape
body_is names body front last is = ap (λ z. body_shape (map (flaws names) z)) is ∙ ap body_shape (map-append (flaws names) front (last ∷ [])) ∙ shape_is (map (flaws names) front) (flaws names last)

names_are : (s : Scope) (fs : List Flaws) (f : Flaws) → body_names s (fs ++ f ∷ []) ≡ or_else (writes_names s fs) (f.expr_names s)
names_are s [] f = refl
names_are s (g ∷ []) f = ap (or_else (g.write_names s)) (names_are s [] f) ∙ or_else-assoc (g.write_names s) None (f.expr_names s)
names_are s (g ∷ h ∷ fs) f = ap (or_else (g.write_names s)) (names_are s (h ∷ fs) f) ∙ or_else-assoc (g.write_names s) (writes_names s (h ∷ fs)) (f.expr_names s)

-- the names in a body, of which the value comes last
pub body_names_are : (s : Scope) (names : List (List ℕ)) (body front : List Datum) (last : Datum) → body ≡ front ++ last ∷ [] → body_names s (map (flaws names) body) ≡ or_else (writes_names s (map (flaws names) front)) ((flaws names last).expr_names s)
body_names_are s names body front last is = ap (λ z. body_names s (map (flaws names) z)) is ∙ ap (body_names s) (map-append (flaws names) front (last ∷ [])) ∙ names_are s (map (flaws names) front) (flaws names last)

-- a list of one and more, and of two and more
pub one_first : {A : Type 0} (xs : List A) (x : A) → 1 ≤ length xs → x ≡ get_or xs 0 x → xs ≡ x ∷ take (length xs - 1) (drop 1 xs)
one_first [] x long is_x = absurd (omega arith)
one_first (z ∷ xs) x long is_x = (λ i. sym is_x i ∷ sym (take_rest (z ∷ xs) 1) i)

pub two_first : {A : Type 0} (xs : List A) (x y : A) → 2 ≤ length xs → x ≡ get_or xs 0 x → y ≡ get_or xs 1 y → xs ≡ x ∷ y ∷ take (length xs - 2) (drop 2 xs)
two_first [] x y long is_x is_y = absurd (omega arith)
two_first (z ∷ []) x y long is_x is_y = absurd (omega arith)
two_first (z ∷ w ∷ xs) x y long is_x is_y = (λ i. sym is_x i ∷ sym is_y i ∷ sym (take_rest (z ∷ w ∷ xs) 2) i)

-- the first of two and more
pub first_before : {A : Type 0} (xs : List A) (y : A) → 2 ≤ length xs → y ≡ get_or xs 1 y → (x : A) × (xs ≡ x ∷ y ∷ take (length xs - 2) (drop 2 xs))
first_before [] y long is_y = absurd (omega arith)
first_before (x ∷ xs) y long is_y = (x, two_first (x ∷ xs) x y long refl is_y)

module _ (names : List (List ℕ)) (p : Place) (first head : Datum) where
  behind : (body : List Datum) → (length body == 0) ≡ false → definition_list_shape p (map (flaws names) (first ∷ head ∷ body)) ≡ defined_shape p (keyword_in (flaws names first).word) (flaws names head) (map (flaws names) body)
  behind [] some = absurd cc
  behind (b ∷ body) some = refl

  -- the shape of a definition, by its first part, its head and its body
  pub definition_is : (parts body : List Datum) (k : Option Keyword) → parts ≡ first ∷ head ∷ body → (length body == 0) ≡ false → k ≡ keyword_in (flaws names first).word → defined_shape p k (flaws names head) (map (flaws names) body) ≡ definition_list_shape p (map (flaws names) parts)
  definition_is parts body k is some keyword = ap (λ z. defined_shape p z (flaws names head) (map (flaws names) body)) keyword ∙ sym (behind body some) ∙ sym (ap (λ z. definition_list_shape p (map (flaws names) z)) is)
