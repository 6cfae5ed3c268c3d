-- Two types that are instances of each other have the same text.
-- For: `one_text`
use Rattle.std.proofs.Common.{◌≡◌, ℕ, suc, Bool, true, false, List, [], ◌∷◌, ◌++◌, map, refl, sym, ap, ◌∙◌, ⊎_elim}
use Rattle.std.specs.Prelude.{◌==◌, ◌||◌, if◌then◌else◌, decimal, codes}
use Rattle.std.specs.List.{concat}
use Rattle.std.proofs.lemmas.List.{map-append}
use Rattle.std.proofs.lemmas.Bool.{eqb-true, eq-eqb}
use Rattle.ps_base.specs.Texts.{◌&◌}
use Rattle.ps_types.specs.declared.types.Ty.{Ty, Ty-F, map-Ty, fold-roll-Ty, roll-Ty, out-Ty, out-roll-Ty, roll-out-Ty}
use Rattle.ps_types.specs.declared.types.Ty.TheVariants as ty
use Rattle.ps_types.specs.declared.types.RecordKind.{RecordKind}
use Rattle.ps_types.specs.Substitutions.{Substitution, applied, apply, mentions, some_mentions}
use Rattle.ps_types.specs.Writing.{Text, variables, variables_node, before, stands_in, different, number, text_node, text_in, type_text, spaced}
use Rattle.ps_types.proofs.TypesAreTerms.{every, parts, by_parts, apply_at, apply_var, mentions_node, mentions_at}
use Rattle.ps_types.proofs.SubstitutionsCompose.{composes, unchanged, same_on, left_true, right_true}
use Rattle.ps_kernel.specs.Lists.{Each}
use Rattle.ps_kernel.proofs.NumbersStandInLists.{or_cases}

-- ---- a type at a substitution tells what its variables become

module _ (ρ τ : Substitution) where
  abbrev Tells : Ty → Type 0
  Tells t = apply ρ t ≡ apply τ t → (x : ℕ) → mentions x t ≡ true → ρ x ≡ τ x

  all_tell : (ts : List Ty) → every Tells ts → map (apply ρ) ts ≡ map (apply τ) ts → (x : ℕ) → some_mentions x ts ≡ true → ρ x ≡ τ x
  all_tell [] h e x m = absurd cc
  all_tell (t ∷ ts) h e x m =
      let first : apply ρ t ≡ apply τ t = cc in
      let rest : map (apply ρ) ts ≡ map (apply τ) ts = cc in
      ⊎_elim (λ (a : mentions x t ≡ true). h.0 first x a) (λ (b : some_mentions x ts ≡ true). all_tell ts h.1 rest x b) (or_cases (mentions x t) (some_mentions x ts) m)

  same_layer : (x y : Ty-F Ty) → roll-Ty x ≡ roll-Ty y → x ≡ y
  same_layer x y e = sym (out-roll-Ty x) ∙ ap out-Ty e ∙ out-roll-Ty y

  tells_at : (y : Ty-F Ty) → parts Tells y → applied ρ (map-Ty Ty Ty (apply ρ) y) ≡ applied τ (map-Ty Ty Ty (apply τ) y) → (x : ℕ) → mentions_node x y ≡ true → ρ x ≡ τ x
  tells_at Ty-F.Integer h e x m = absurd cc
  tells_at Ty-F.Boolean h e x m = absurd cc
  tells_at Ty-F.Char h e x m = absurd cc
  tells_at Ty-F.Unit h e x m = absurd cc
  tells_at Ty-F.Address h e x m = absurd cc
  tells_at Ty-F.Text h e x m = absurd cc
  tells_at (Ty-F.Vector a) h e x m =
      let layer : Ty-F.Vector (apply ρ a) ≡ Ty-F.Vector (apply τ a) = same_layer (Ty-F.Vector (apply ρ a)) (Ty-F.Vector (apply τ a)) e in
      let inner : apply ρ a ≡ apply τ a = cc in h inner x m
  tells_at (Ty-F.Tuple k) h e x m = absurd cc
  tells_at (Ty-F.Proc ts r) h e x m =
      let layer : Ty-F.Proc (map (apply ρ) ts) (apply ρ r) ≡ Ty-F.Proc (map (apply τ) ts) (apply τ r) = same_layer (Ty-F.Proc (map (apply ρ) ts) (apply ρ r)) (Ty-F.Proc (map (apply τ) ts) (apply τ r)) e in
      let first : map (apply ρ) ts ≡ map (apply τ) ts = cc in
      let rest : apply ρ r ≡ apply τ r = cc in
      ⊎_elim (λ (a : some_mentions x ts ≡ true). all_tell ts h.0 first x a) (λ (b : mentions x r ≡ true). h.1 rest x b) (or_cases (some_mentions x ts) (mentions x r) m)
  tells_at (Ty-F.Var y) h e x m = let same : y ≡ x = eqb-true y x m in ap ρ (sym same) ∙ e ∙ ap τ same

  pub tells : (t : Ty) → Tells t
  tells = by_parts Tells (λ y h e x m. tells_at y h (sym (apply_at ρ y) ∙ e ∙ apply_at τ y) x (sym (mentions_at x y) ∙ m))

-- ---- variables of variables

abbrev variable_in : Ty-F Ty → ℕ
variable_in (Ty-F.Var x) = x
variable_in y = 0

-- the number of a variable
abbrev variable : Ty → ℕ
variable t = variable_in (out-Ty t)

variable_of : (x : ℕ) → variable (ty.Var x) ≡ x
variable_of x = ap variable_in (ty.outs-Var x)

no_variable : (σ : Substitution) (y : Ty-F Ty) (x : ℕ) → roll-Ty y ≡ ty.Var x → y ≡ Ty-F.Var x
no_variable σ y x e = sym (out-roll-Ty y) ∙ ap out-Ty e ∙ ty.outs-Var x

-- what becomes a variable is one
becomes : (τ : Substitution) (y : Ty-F Ty) (x : ℕ) → applied τ (map-Ty Ty Ty (apply τ) y) ≡ ty.Var x → roll-Ty y ≡ ty.Var (variable_in y)
becomes τ Ty-F.Integer x e = (let clash = no_variable τ Ty-F.Integer x e in absurd cc)
becomes τ Ty-F.Boolean x e = (let clash = no_variable τ Ty-F.Boolean x e in absurd cc)
becomes τ Ty-F.Char x e = (let clash = no_variable τ Ty-F.Char x e in absurd cc)
becomes τ Ty-F.Unit x e = (let clash = no_variable τ Ty-F.Unit x e in absurd cc)
becomes τ Ty-F.Address x e = (let clash = no_variable τ Ty-F.Address x e in absurd cc)
becomes τ Ty-F.Text x e = (let clash = no_variable τ Ty-F.Text x e in absurd cc)
becomes τ (Ty-F.Vector a) x e = (let clash = no_variable τ (Ty-F.Vector (apply τ a)) x e in absurd cc)
becomes τ (Ty-F.Tuple k) x e = (let clash = no_variable τ (Ty-F.Tuple k) x e in absurd cc)
becomes τ (Ty-F.Proc ts r) x e = (let clash = no_variable τ (Ty-F.Proc (map (apply τ) ts) (apply τ r)) x e in absurd cc)
becomes τ (Ty-F.Var y) x e = ty.rolls-Var y

is_variable : (τ : Substitution) (t : Ty) (x : ℕ) → apply τ t ≡ ty.Var x → t ≡ ty.Var (variable t)
is_variable τ t x e = sym (roll-out-Ty t) ∙ becomes τ (out-Ty t) x (sym (apply_at τ (out-Ty t)) ∙ ap (apply τ) (roll-out-Ty t) ∙ e)

-- ---- numbers of renamed variables

module _ (r l : ℕ → ℕ) where
  abbrev Back : ℕ → Type 0
  Back x = l (r x) ≡ x

  same_truth : (a b : Bool) → (a ≡ true → b ≡ true) → (b ≡ true → a ≡ true) → a ≡ b
  same_truth true b f g = sym (f refl)
  same_truth false true f g = g refl
  same_truth false false f g = refl

  same_test : (x y : ℕ) → Back x → Back y → (r y == r x) ≡ (y == x)
  same_test x y bx by = same_truth (r y == r x) (y == x)
      (λ e. eq-eqb y x (sym by ∙ ap l (eqb-true (r y) (r x) e) ∙ bx))
      (λ e. eq-eqb (r y) (r x) (ap r (eqb-true y x e)))

  stands_map : (x : ℕ) (xs : List ℕ) → Back x → Each Back xs → stands_in (r x) (map r xs) ≡ stands_in x xs
  stands_map x [] bx h = refl
  stands_map x (y ∷ ys) bx h = ap (λ b. b || stands_in (r x) (map r ys)) (same_test x y bx h.0) ∙ ap (λ b. (y == x) || b) (stands_map x ys bx h.1)

  before_map : (x : ℕ) (xs : List ℕ) → Back x → Each Back xs → before (r x) (map r xs) ≡ map r (before x xs)
  before_map x [] bx h = refl
  before_map x (y ∷ ys) bx h = ap (λ (b : Bool). if b then [] else r y ∷ before (r x) (map r ys)) (same_test x y bx h.0) ∙ go (y == x) (before_map x ys bx h.1)
    where
      go : (b : Bool) → before (r x) (map r ys) ≡ map r (before x ys) → (if b then [] else r y ∷ before (r x) (map r ys)) ≡ map r (if b then [] else y ∷ before x ys)
      go true e = refl
      go false e = ap (λ zs. r y ∷ zs) e

  before_back : (x : ℕ) (xs : List ℕ) → Each Back xs → Each Back (before x xs)
  before_back x [] h = tt
  before_back x (y ∷ ys) h = go (y == x) (before_back x ys h.1)
    where
      go : (b : Bool) → Each Back (before x ys) → Each Back (if b then [] else y ∷ before x ys)
      go true e = tt
      go false e = (h.0, e)

  different_map : (xs : List ℕ) → Each Back xs → different (map r xs) ≡ different xs
  different_map [] h = refl
  different_map (x ∷ xs) h = ap (λ (b : Bool). if b then different (map r xs) else suc (different (map r xs))) (stands_map x xs h.0 h.1)
      ∙ ap (λ n. if stands_in x xs then n else suc n) (different_map xs h.1)

  pub number_map : (xs : List ℕ) (x : ℕ) → Back x → Each Back xs → number (map r xs) (r x) ≡ number xs x
  number_map xs x bx h = ap different (before_map x xs bx h) ∙ different_map (before x xs) (before_back x xs h)

-- ---- the variables and the text of a renamed type

module _ (r : ℕ → ℕ) where
  abbrev named : Substitution
  named x = ty.Var (r x)

  abbrev Renames : Ty → Type 0
  Renames t = variables (apply named t) ≡ map r (variables t)

  variables_roll : (y : Ty-F Ty) → variables (roll-Ty y) ≡ variables_node (map-Ty Ty (List ℕ) variables y)
  variables_roll y = fold-roll-Ty (List ℕ) variables_node y

  concat_renames : (ts : List Ty) → every Renames ts → concat (map variables (map (apply named) ts)) ≡ map r (concat (map variables ts))
  concat_renames [] h = refl
  concat_renames (t ∷ ts) h = ap (λ z. z ++ concat (map variables (map (apply named) ts))) h.0 ∙ ap (λ z. map r (variables t) ++ z) (concat_renames ts h.1)
      ∙ sym (map-append r (variables t) (concat (map variables ts)))

  renames_at : (y : Ty-F Ty) → parts Renames y → variables (applied named (map-Ty Ty Ty (apply named) y)) ≡ map r (variables_node (map-Ty Ty (List ℕ) variables y))
  renames_at Ty-F.Integer h = variables_roll Ty-F.Integer
  renames_at Ty-F.Boolean h = variables_roll Ty-F.Boolean
  renames_at Ty-F.Char h = variables_roll Ty-F.Char
  renames_at Ty-F.Unit h = variables_roll Ty-F.Unit
  renames_at Ty-F.Address h = variables_roll Ty-F.Address
  renames_at Ty-F.Text h = variables_roll Ty-F.Text
  renames_at (Ty-F.Vector a) h = variables_roll (Ty-F.Vector (apply named a)) ∙ h
  renames_at (Ty-F.Tuple k) h = variables_roll (Ty-F.Tuple k)
  renames_at (Ty-F.Proc ts u) h = variables_roll (Ty-F.Proc (map (apply named) ts) (apply named u))
      ∙ ap (λ z. z ++ variables (apply named u)) (concat_renames ts h.0) ∙ ap (λ z. map r (concat (map variables ts)) ++ z) h.1
      ∙ sym (map-append r (concat (map variables ts)) (variables u))
  renames_at (Ty-F.Var x) h = ap variables (sym (ty.rolls-Var (r x))) ∙ variables_roll (Ty-F.Var (r x))

  pub renamed_variables : (t : Ty) → Renames t
  renamed_variables = by_parts Renames (λ y h. ap variables (apply_at named y) ∙ renames_at y h ∙ ap (map r) (sym (variables_roll y)))

  module _ (kinds : List RecordKind) (names : List Text) (vs ws : List ℕ) where
    abbrev Says : Ty → Type 0
    Says t = ((x : ℕ) → mentions x t ≡ true → number ws (r x) ≡ number vs x) → text_in kinds names ws (apply named t) ≡ text_in kinds names vs t

    text_roll : (us : List ℕ) (y : Ty-F Ty) → text_in kinds names us (roll-Ty y) ≡ text_node kinds names us (map-Ty Ty Text (text_in kinds names us) y)
    unfolding text_in
    text_roll us y = fold-roll-Ty Text (text_node kinds names us) y

    all_say : (ts : List Ty) → every Says ts → ((x : ℕ) → some_mentions x ts ≡ true → number ws (r x) ≡ number vs x) → map (text_in kinds names ws) (map (apply named) ts) ≡ map (text_in kinds names vs) ts
    all_say [] h f = refl
    all_say (t ∷ ts) h f =
        ap (λ z. z ∷ map (text_in kinds names ws) (map (apply named) ts)) (h.0 (λ x m. f x (left_true (mentions x t) (some_mentions x ts) m)))
        ∙ ap (λ z. text_in kinds names vs t ∷ z) (all_say ts h.1 (λ x m. f x (right_true (mentions x t) (some_mentions x ts) m)))

    says_at : (y : Ty-F Ty) → parts Says y → ((x : ℕ) → mentions_node x y ≡ true → number ws (r x) ≡ number vs x)
        → text_in kinds names ws (applied named (map-Ty Ty Ty (apply named) y)) ≡ text_node kinds names vs (map-Ty Ty Text (text_in kinds names vs) y)
    says_at Ty-F.Integer h f = text_roll ws Ty-F.Integer
    says_at Ty-F.Boolean h f = text_roll ws Ty-F.Boolean
    says_at Ty-F.Char h f = text_roll ws Ty-F.Char
    says_at Ty-F.Unit h f = text_roll ws Ty-F.Unit
    says_at Ty-F.Address h f = text_roll ws Ty-F.Address
    says_at Ty-F.Text h f = text_roll ws Ty-F.Text
    says_at (Ty-F.Vector a) h f = text_roll ws (Ty-F.Vector (apply named a)) ∙ ap (λ z. codes "(vector " & z & codes ")") (h f)
    says_at (Ty-F.Tuple k) h f = text_roll ws (Ty-F.Tuple k)
    says_at (Ty-F.Proc ts u) h f = text_roll ws (Ty-F.Proc (map (apply named) ts) (apply named u))
        ∙ ap (λ z. codes "(proc (" & spaced z & codes ") " & text_in kinds names ws (apply named u) & codes ")") (all_say ts h.0 (λ x m. f x (left_true (some_mentions x ts) (mentions x u) m)))
        ∙ ap (λ z. codes "(proc (" & spaced (map (text_in kinds names vs) ts) & codes ") " & z & codes ")") (h.1 (λ x m. f x (right_true (some_mentions x ts) (mentions x u) m)))
    says_at (Ty-F.Var x) h f = ap (text_in kinds names ws) (sym (ty.rolls-Var (r x))) ∙ text_roll ws (Ty-F.Var (r x)) ∙ ap (λ n. codes "t" & decimal n) (f x (eq-eqb x x refl))

    pub says : (t : Ty) → Says t
    says = by_parts Says (λ y h f. ap (text_in kinds names ws) (apply_at named y) ∙ says_at y h (λ x m. f x (mentions_at x y ∙ m)) ∙ sym (text_roll vs y))

-- ---- types that are instances of each other

each_stands : (P : ℕ → Type 0) (xs : List ℕ) → ((x : ℕ) → stands_in x xs ≡ true → P x) → Each P xs
each_stands P [] h = tt
each_stands P (x ∷ xs) h = (h x (left_true (x == x) (stands_in x xs) (eq-eqb x x refl)), each_stands P xs (λ y on. h y (right_true (x == y) (stands_in y xs) on)))

module _ (kinds : List RecordKind) (names : List Text) (t u : Ty) (σ τ : Substitution) (there : u ≡ apply σ t) (back : t ≡ apply τ u) where
  abbrev r : ℕ → ℕ
  r x = variable (σ x)

  abbrev l : ℕ → ℕ
  l y = variable (τ y)

  both_ways : (x : ℕ) → mentions x t ≡ true → apply τ (σ x) ≡ ty.Var x
  both_ways = tells (λ x. apply τ (σ x)) ty.Var t (sym (composes τ σ t) ∙ ap (apply τ) (sym there) ∙ sym back ∙ sym (unchanged t))

  becomes_variable : (x : ℕ) → mentions x t ≡ true → σ x ≡ ty.Var (r x)
  becomes_variable x m = is_variable τ (σ x) x (both_ways x m)

  comes_back : (x : ℕ) → mentions x t ≡ true → l (r x) ≡ x
  comes_back x m = ap variable (sym (apply_var τ (r x)) ∙ ap (apply τ) (sym (becomes_variable x m)) ∙ both_ways x m) ∙ variable_of x

  is_named : u ≡ apply (named r) t
  is_named = there ∙ same_on σ (named r) t becomes_variable

  all_back : Each (Back r l) (variables t)
  all_back = each_stands (Back r l) (variables t) comes_back

  pub same_text : type_text kinds names t ≡ type_text kinds names u
  same_text =
      sym (says r kinds names (variables t) (map r (variables t)) t (λ x m. number_map r l (variables t) x (comes_back x m) all_back))
      ∙ ap (λ vs. text_in kinds names vs (apply (named r) t)) (sym (ap variables is_named ∙ renamed_variables r t))
      ∙ ap (text_in kinds names (variables u)) (sym is_named)
