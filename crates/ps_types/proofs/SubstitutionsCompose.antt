-- A type at one substitution and then at another is the type at the two in one; a type turns on its own variables alone.
-- For: substitutions_compose
use Rattle.std.proofs.Common.{◌≡◌, ℕ, Bool, true, false, List, [], ◌∷◌, map, refl, sym, ap, ◌∙◌, arith}
use Rattle.std.specs.Prelude.{◌||◌, ◌==◌}
use Rattle.ps_types.specs.declared.types.Ty.{Ty, Ty-F, map-Ty, roll-Ty}
use Rattle.ps_types.specs.declared.types.Ty.TheVariants as ty
use Rattle.ps_types.specs.declared.types.Ty.TheVariants.{rolls-Var}
use Rattle.ps_types.specs.Substitutions.{Substitution, applied, apply, mentions, some_mentions}
use Rattle.ps_types.specs.Laws.{SubstitutionsCompose, OwnVariablesDecide}
use Rattle.ps_types.proofs.TypesAreTerms.{every, parts, by_parts, apply_at, mentions_node, mentions_at}

map_every : {B : Type 0} (f g : Ty → B) (ts : List Ty) → every (λ t. f t ≡ g t) ts → map f ts ≡ map g ts
map_every f g [] h = refl
map_every f g (t ∷ ts) h = ap (λ z. z ∷ map f ts) h.0 ∙ ap (λ z. g t ∷ z) (map_every f g ts h.1)

twice : {A B C : Type 0} (g : B → C) (f : A → B) (ts : List A) → map g (map f ts) ≡ map (λ t. g (f t)) ts
twice g f [] = refl
twice g f (t ∷ ts) = ap (λ z. g (f t) ∷ z) (twice g f ts)

module _ (σ τ : Substitution) where
  abbrev both : Substitution
  both = λ x. apply σ (τ x)

  abbrev Composes : Ty → Type 0
  Composes t = apply σ (apply τ t) ≡ apply both t

  composed : (k : Ty-F Ty) → parts Composes k → apply σ (applied τ (map-Ty Ty Ty (apply τ) k)) ≡ applied both (map-Ty Ty Ty (apply both) k)
  composed Ty-F.Integer h = apply_at σ Ty-F.Integer
  composed Ty-F.Boolean h = apply_at σ Ty-F.Boolean
  composed Ty-F.Char h = apply_at σ Ty-F.Char
  composed Ty-F.Unit h = apply_at σ Ty-F.Unit
  composed Ty-F.Address h = apply_at σ Ty-F.Address
  composed Ty-F.Text h = apply_at σ Ty-F.Text
  composed (Ty-F.Vector a) h = apply_at σ (Ty-F.Vector (apply τ a)) ∙ ap (λ z. roll-Ty (Ty-F.Vector z)) h
  composed (Ty-F.Tuple k) h = apply_at σ (Ty-F.Tuple k)
  composed (Ty-F.Proc ts r) h = apply_at σ (Ty-F.Proc (map (apply τ) ts) (apply τ r))
      ∙ ap (λ z. roll-Ty (Ty-F.Proc z (apply σ (apply τ r)))) (twice (apply σ) (apply τ) ts ∙ map_every (λ t. apply σ (apply τ t)) (apply both) ts h.0)
      ∙ ap (λ z. roll-Ty (Ty-F.Proc (map (apply both) ts) z)) h.1
  composed (Ty-F.Var y) h = refl

  pub composes : (t : Ty) → apply σ (apply τ t) ≡ apply both t
  composes = by_parts Composes (λ k h. ap (apply σ) (apply_at τ k) ∙ composed k h ∙ sym (apply_at both k))

pub all_compose : SubstitutionsCompose
all_compose = composes

pub left_true : (a b : Bool) → a ≡ true → (a || b) ≡ true
left_true true b h = refl
left_true false b h = absurd (grind (arith, h))

pub right_true : (a b : Bool) → b ≡ true → (a || b) ≡ true
right_true true b h = refl
right_true false b h = h

module _ (σ τ : Substitution) where
  abbrev SameOn : Ty → Type 0
  SameOn t = ((x : ℕ) → mentions x t ≡ true → σ x ≡ τ x) → apply σ t ≡ apply τ t

  all_same : (ts : List Ty) → every SameOn ts → ((x : ℕ) → some_mentions x ts ≡ true → σ x ≡ τ x) → map (apply σ) ts ≡ map (apply τ) ts
  all_same [] h f = refl
  all_same (t ∷ ts) h f =
      ap (λ z. z ∷ map (apply σ) ts) (h.0 (λ x m. f x (left_true (mentions x t) (some_mentions x ts) m)))
      ∙ ap (λ z. apply τ t ∷ z) (all_same ts h.1 (λ x m. f x (right_true (mentions x t) (some_mentions x ts) m)))

  self : (y : ℕ) → (y == y) ≡ true
  self y = grind arith

  same_at : (k : Ty-F Ty) → parts SameOn k → ((x : ℕ) → mentions_node x k ≡ true → σ x ≡ τ x) → applied σ (map-Ty Ty Ty (apply σ) k) ≡ applied τ (map-Ty Ty Ty (apply τ) k)
  same_at Ty-F.Integer h f = refl
  same_at Ty-F.Boolean h f = refl
  same_at Ty-F.Char h f = refl
  same_at Ty-F.Unit h f = refl
  same_at Ty-F.Address h f = refl
  same_at Ty-F.Text h f = refl
  same_at (Ty-F.Vector a) h f = ap (λ z. roll-Ty (Ty-F.Vector z)) (h f)
  same_at (Ty-F.Tuple k) h f = refl
  same_at (Ty-F.Proc ts r) h f =
      ap (λ z. roll-Ty (Ty-F.Proc z (apply σ r))) (all_same ts h.0 (λ x m. f x (left_true (some_mentions x ts) (mentions x r) m)))
      ∙ ap (λ z. roll-Ty (Ty-F.Proc (map (apply τ) ts) z)) (h.1 (λ x m. f x (right_true (some_mentions x ts) (mentions x r) m)))
  same_at (Ty-F.Var y) h f = f y (self y)

  pub same_on : (t : Ty) → SameOn t
  same_on = by_parts SameOn (λ k h f. apply_at σ k ∙ same_at k h (λ x m. f x (mentions_at x k ∙ m)) ∙ sym (apply_at τ k))

pub own_variables_decide : OwnVariablesDecide
own_variables_decide = same_on

-- ---- the substitution that gives each variable itself

abbrev Stays : Ty → Type 0
Stays t = apply ty.Var t ≡ t

all_stay : (ts : List Ty) → every Stays ts → map (apply ty.Var) ts ≡ ts
all_stay [] h = refl
all_stay (t ∷ ts) h = ap (λ z. z ∷ map (apply ty.Var) ts) h.0 ∙ ap (λ z. t ∷ z) (all_stay ts h.1)

stays : (k : Ty-F Ty) → parts Stays k → applied ty.Var (map-Ty Ty Ty (apply ty.Var) k) ≡ roll-Ty k
stays Ty-F.Integer h = refl
stays Ty-F.Boolean h = refl
stays Ty-F.Char h = refl
stays Ty-F.Unit h = refl
stays Ty-F.Address h = refl
stays Ty-F.Text h = refl
stays (Ty-F.Vector a) h = ap (λ z. roll-Ty (Ty-F.Vector z)) h
stays (Ty-F.Tuple k) h = refl
stays (Ty-F.Proc ts r) h = ap (λ z. roll-Ty (Ty-F.Proc z (apply ty.Var r))) (all_stay ts h.0) ∙ ap (λ z. roll-Ty (Ty-F.Proc ts z)) h.1
stays (Ty-F.Var y) h = sym (rolls-Var y)

pub unchanged : (t : Ty) → apply ty.Var t ≡ t
unchanged = by_parts Stays (λ k h. apply_at ty.Var k ∙ stays k h)
