-- Types are terms: induction on them, and what a substitution, the variables and the size are at each constructor.
-- For: substitutions_compose, instances_are_no_smaller, and the laws of unification
use Rattle.std.proofs.Common.{◌≡◌, ℕ, ◌≤◌, Bool, true, false, List, [], ◌∷◌, ◌++◌, map, refl, sym, ap, ◌∙◌, subst, arith}
use Rattle.std.specs.Prelude.{◌||◌, ◌==◌}
use Rattle.std.specs.List.{concat}
use Rattle.ps_types.specs.declared.types.Ty.{Ty, Ty-F, map-Ty, fold-roll-Ty, ind-Ty, roll-Ty}
use Rattle.ps_types.specs.declared.types.Ty.TheVariants as ty
use Rattle.ps_types.specs.declared.types.Ty.TheVariants.{rolls-Var}
use Rattle.ps_types.specs.Writing.{stands_in, variables, variables_node}
use Rattle.ps_types.specs.Substitutions.{Substitution, applied, apply, mentions, some_mentions, size_node, size}

abbrev pub every : {A : Type 0} → (A → Type 0) → List A → Type 0
every P [] = Unit {0}
every P (x ∷ xs) = P x × every P xs

-- P holds of each part
abbrev pub parts : (Ty → Type 0) → Ty-F Ty → Type 0
parts P (Ty-F.Vector a) = P a
parts P (Ty-F.Proc ts r) = every P ts × P r
parts P k = Unit {0}

module _ (P : Ty → Type 0) where
  firsts : (es : List ((t : Ty) × P t)) → every P (map (λ e. e.0) es)
  firsts [] = tt
  firsts (e ∷ es) = (e.1, firsts es)

  parts_of : (y : Ty-F ((t : Ty) × P t)) → parts P (map-Ty ((t : Ty) × P t) Ty (λ e. e.0) y)
  parts_of Ty-F.Integer = tt
  parts_of Ty-F.Boolean = tt
  parts_of Ty-F.Char = tt
  parts_of Ty-F.Unit = tt
  parts_of Ty-F.Address = tt
  parts_of Ty-F.Text = tt
  parts_of (Ty-F.Vector a) = a.1
  parts_of (Ty-F.Tuple k) = tt
  parts_of (Ty-F.Proc ts r) = (firsts ts, r.1)
  parts_of (Ty-F.Var y) = tt

  -- induction: what holds of a type where it holds of its parts holds of every type
  pub by_parts : ((k : Ty-F Ty) → parts P k → P (roll-Ty k)) → (t : Ty) → P t
  by_parts h = ind-Ty P (λ x y is. subst (λ z. P (roll-Ty z)) is (h (map-Ty ((t : Ty) × P t) Ty (λ e. e.0) y) (parts_of y)))

  pub every_holds : ((t : Ty) → P t) → (ts : List Ty) → every P ts
  every_holds h [] = tt
  every_holds h (t ∷ ts) = (h t, every_holds h ts)

  pub parts_hold : ((t : Ty) → P t) → (k : Ty-F Ty) → parts P k
  parts_hold h Ty-F.Integer = tt
  parts_hold h Ty-F.Boolean = tt
  parts_hold h Ty-F.Char = tt
  parts_hold h Ty-F.Unit = tt
  parts_hold h Ty-F.Address = tt
  parts_hold h Ty-F.Text = tt
  parts_hold h (Ty-F.Vector a) = h a
  parts_hold h (Ty-F.Tuple k) = tt
  parts_hold h (Ty-F.Proc ts r) = (every_holds h ts, h r)
  parts_hold h (Ty-F.Var y) = tt

-- ---- one constructor

pub apply_at : (σ : Substitution) (k : Ty-F Ty) → apply σ (roll-Ty k) ≡ applied σ (map-Ty Ty Ty (apply σ) k)
apply_at σ k = fold-roll-Ty Ty (applied σ) k

pub size_at : (k : Ty-F Ty) → size (roll-Ty k) ≡ size_node (map-Ty Ty ℕ size k)
size_at k = fold-roll-Ty ℕ size_node k

variables_at : (k : Ty-F Ty) → variables (roll-Ty k) ≡ variables_node (map-Ty Ty (List ℕ) variables k)
variables_at k = fold-roll-Ty (List ℕ) variables_node k

pub apply_var : (σ : Substitution) (x : ℕ) → apply σ (ty.Var x) ≡ σ x
apply_var σ x = ap (apply σ) (sym (rolls-Var x)) ∙ apply_at σ (Ty-F.Var x)

pub some_size : (t : Ty) → 1 ≤ size t
some_size = by_parts (λ t. 1 ≤ size t) (λ k h. subst (λ n. 1 ≤ n) (sym (size_at k)) (of k))
  where
    of : (k : Ty-F Ty) → 1 ≤ size_node (map-Ty Ty ℕ size k)
    of Ty-F.Integer = omega arith
    of Ty-F.Boolean = omega arith
    of Ty-F.Char = omega arith
    of Ty-F.Unit = omega arith
    of Ty-F.Address = omega arith
    of Ty-F.Text = omega arith
    of (Ty-F.Vector a) = omega arith
    of (Ty-F.Tuple k) = omega arith
    of (Ty-F.Proc ts r) = omega arith
    of (Ty-F.Var y) = omega arith

-- ---- variables

or_none : (b : Bool) → (b || false) ≡ b
or_none true = refl
or_none false = refl

stands_in_both : (x : ℕ) (xs ys : List ℕ) → stands_in x (xs ++ ys) ≡ (stands_in x xs || stands_in x ys)
stands_in_both x [] ys = refl
stands_in_both x (y ∷ xs) ys = go (y == x) (stands_in_both x xs ys)
  where
    go : (b : Bool) → stands_in x (xs ++ ys) ≡ (stands_in x xs || stands_in x ys) → (b || stands_in x (xs ++ ys)) ≡ ((b || stands_in x xs) || stands_in x ys)
    go true h = refl
    go false h = h

stands_in_some : (x : ℕ) (ts : List Ty) → stands_in x (concat (map variables ts)) ≡ some_mentions x ts
stands_in_some x [] = refl
stands_in_some x (t ∷ ts) = stands_in_both x (variables t) (concat (map variables ts)) ∙ ap (λ b. mentions x t || b) (stands_in_some x ts)

-- whether a variable stands in a type of this constructor
abbrev pub mentions_node : ℕ → Ty-F Ty → Bool
mentions_node x (Ty-F.Vector a) = mentions x a
mentions_node x (Ty-F.Proc ts r) = some_mentions x ts || mentions x r
mentions_node x (Ty-F.Var y) = y == x
mentions_node x k = false

pub mentions_at : (x : ℕ) (k : Ty-F Ty) → mentions x (roll-Ty k) ≡ mentions_node x k
mentions_at x k = ap (stands_in x) (variables_at k) ∙ of k
  where
    of : (k : Ty-F Ty) → stands_in x (variables_node (map-Ty Ty (List ℕ) variables k)) ≡ mentions_node x k
    of Ty-F.Integer = refl
    of Ty-F.Boolean = refl
    of Ty-F.Char = refl
    of Ty-F.Unit = refl
    of Ty-F.Address = refl
    of Ty-F.Text = refl
    of (Ty-F.Vector a) = refl
    of (Ty-F.Tuple k) = refl
    of (Ty-F.Proc ts r) = stands_in_both x (concat (map variables ts)) (variables r) ∙ ap (λ b. b || mentions x r) (stands_in_some x ts)
    of (Ty-F.Var y) = or_none (y == x)

pub mentions_var : (x y : ℕ) → mentions x (ty.Var y) ≡ (y == x)
mentions_var x y = ap (mentions x) (sym (rolls-Var y)) ∙ mentions_at x (Ty-F.Var y)
