-- No instance of a type is smaller than the type, and what a variable becomes is smaller than what a larger type with it does.
-- For: instances_are_no_smaller, and the occurs check of unification
use Rattle.std.proofs.Common.{◌≡◌, ℕ, ◌+◌, ◌≤◌, ◌<◌, Bool, true, false, List, [], ◌∷◌, map, ◌⊎◌, inl, inr, refl, sym, ap, ◌∙◌, subst, arith}
use Rattle.std.specs.Prelude.{◌||◌, ◌==◌}
use Rattle.ps_types.specs.declared.types.Ty.{Ty, Ty-F, roll-Ty}
use Rattle.ps_types.specs.Substitutions.{Substitution, apply, mentions, some_mentions, total, size}
use Rattle.ps_types.specs.Laws.{InstancesAreNoSmaller, InstancesCompose}
use Rattle.ps_types.proofs.TypesAreTerms.{every, parts, by_parts, parts_hold, apply_at, size_at, some_size, mentions_node, mentions_at}
use Rattle.ps_types.proofs.SubstitutionsCompose.{composes}

module _ (θ : Substitution) where
  -- the sizes of some types at θ
  abbrev pub sizes : List Ty → ℕ
  sizes ts = total (map size (map (apply θ) ts))

  pub vector_size : (a : Ty) → size (apply θ (roll-Ty (Ty-F.Vector a))) ≡ 1 + size (apply θ a)
  vector_size a = ap size (apply_at θ (Ty-F.Vector a)) ∙ size_at (Ty-F.Vector (apply θ a))

  pub proc_size : (ts : List Ty) (r : Ty) → size (apply θ (roll-Ty (Ty-F.Proc ts r))) ≡ 1 + sizes ts + size (apply θ r)
  proc_size ts r = ap size (apply_at θ (Ty-F.Proc ts r)) ∙ size_at (Ty-F.Proc (map (apply θ) ts) (apply θ r))

  abbrev NoSmaller : Ty → Type 0
  NoSmaller t = size t ≤ size (apply θ t)

  all_no_smaller : (ts : List Ty) → every NoSmaller ts → total (map size ts) ≤ sizes ts
  all_no_smaller [] h = omega arith
  all_no_smaller (t ∷ ts) h = omega (arith, h.0, all_no_smaller ts h.1)

  no_smaller_at : (k : Ty-F Ty) → parts NoSmaller k → NoSmaller (roll-Ty k)
  no_smaller_at Ty-F.Integer h = omega (arith, ap size (apply_at θ Ty-F.Integer))
  no_smaller_at Ty-F.Boolean h = omega (arith, ap size (apply_at θ Ty-F.Boolean))
  no_smaller_at Ty-F.Char h = omega (arith, ap size (apply_at θ Ty-F.Char))
  no_smaller_at Ty-F.Unit h = omega (arith, ap size (apply_at θ Ty-F.Unit))
  no_smaller_at Ty-F.Address h = omega (arith, ap size (apply_at θ Ty-F.Address))
  no_smaller_at Ty-F.Text h = omega (arith, ap size (apply_at θ Ty-F.Text))
  no_smaller_at (Ty-F.Vector a) h = omega (arith, size_at (Ty-F.Vector a), vector_size a, h)
  no_smaller_at (Ty-F.Tuple k) h = omega (arith, ap size (apply_at θ (Ty-F.Tuple k)))
  no_smaller_at (Ty-F.Proc ts r) h = omega (arith, size_at (Ty-F.Proc ts r), proc_size ts r, all_no_smaller ts h.0, h.1)
  no_smaller_at (Ty-F.Var y) h = omega (arith, size_at (Ty-F.Var y), some_size (apply θ (roll-Ty (Ty-F.Var y))))

  pub no_smaller : (t : Ty) → NoSmaller t
  no_smaller = by_parts NoSmaller no_smaller_at

pub instances_no_smaller : InstancesAreNoSmaller
instances_no_smaller general t h = subst (λ z. size general ≤ size z) (sym h.instance) (no_smaller h.by general)

pub instances_compose : InstancesCompose
instances_compose t u v h k = record { by = λ x. apply k.by (h.by x); instance = k.instance ∙ ap (apply k.by) h.instance ∙ composes k.by h.by t }

-- ---- a variable within a type

-- a type that is more than a variable
abbrev pub IsMore : Ty-F Ty → Type 0
IsMore (Ty-F.Var y) = ⊥
IsMore k = Unit {0}

one_of : (a b : Bool) → (a || b) ≡ true → (a ≡ true) ⊎ (b ≡ true)
one_of true b h = inl refl
one_of false b h = inr h

module _ (θ : Substitution) (x : ℕ) where
  abbrev Fits : Ty → Type 0
  Fits t = mentions x t ≡ true → size (θ x) ≤ size (apply θ t)

  some_fits : (ts : List Ty) → every Fits ts → some_mentions x ts ≡ true → size (θ x) ≤ sizes θ ts
  some_fits [] h on = absurd (grind (arith, on))
  some_fits (t ∷ ts) h on = elim (one_of (mentions x t) (some_mentions x ts) on) as (λ e. size (θ x) ≤ size (apply θ t) + sizes θ ts) [
    | inl a ↦ omega (arith, h.0 a)
    | inr b ↦ omega (arith, some_fits ts h.1 b)
  ]

  more_at : (k : Ty-F Ty) → parts Fits k → IsMore k → mentions_node x k ≡ true → size (θ x) < size (apply θ (roll-Ty k))
  more_at Ty-F.Integer h m on = absurd (grind (arith, on))
  more_at Ty-F.Boolean h m on = absurd (grind (arith, on))
  more_at Ty-F.Char h m on = absurd (grind (arith, on))
  more_at Ty-F.Unit h m on = absurd (grind (arith, on))
  more_at Ty-F.Address h m on = absurd (grind (arith, on))
  more_at Ty-F.Text h m on = absurd (grind (arith, on))
  more_at (Ty-F.Vector a) h m on = rw (vector_size θ a) (omega (arith, h on))
  more_at (Ty-F.Tuple k) h m on = absurd (grind (arith, on))
  more_at (Ty-F.Proc ts r) h m on = rw (proc_size θ ts r) (elim (one_of (some_mentions x ts) (mentions x r) on) as (λ e. size (θ x) < 1 + sizes θ ts + size (apply θ r)) [
    | inl a ↦ omega (arith, some_fits ts h.0 a)
    | inr b ↦ omega (arith, h.1 b)
  ])
  more_at (Ty-F.Var y) h m on = absurd m

  same_var : (y : ℕ) → (y == x) ≡ true → y ≡ x
  same_var y on = grind (arith, on)

  fits_at : (k : Ty-F Ty) → parts Fits k → mentions_node x k ≡ true → size (θ x) ≤ size (apply θ (roll-Ty k))
  fits_at Ty-F.Integer h on = absurd (grind (arith, on))
  fits_at Ty-F.Boolean h on = absurd (grind (arith, on))
  fits_at Ty-F.Char h on = absurd (grind (arith, on))
  fits_at Ty-F.Unit h on = absurd (grind (arith, on))
  fits_at Ty-F.Address h on = absurd (grind (arith, on))
  fits_at Ty-F.Text h on = absurd (grind (arith, on))
  fits_at (Ty-F.Vector a) h on = omega (arith, more_at (Ty-F.Vector a) h tt on)
  fits_at (Ty-F.Tuple k) h on = absurd (grind (arith, on))
  fits_at (Ty-F.Proc ts r) h on = omega (arith, more_at (Ty-F.Proc ts r) h tt on)
  fits_at (Ty-F.Var y) h on = omega (arith, ap (λ z. size (θ z)) (same_var y on), ap size (apply_at θ (Ty-F.Var y)))

  fits : (t : Ty) → Fits t
  fits = by_parts Fits (λ k h on. fits_at k h (sym (mentions_at x k) ∙ on))

  -- what x becomes is smaller than what a larger type with x in it becomes
  pub fits_more : (k : Ty-F Ty) → IsMore k → mentions x (roll-Ty k) ≡ true → size (θ x) < size (apply θ (roll-Ty k))
  fits_more k m on = more_at k (parts_hold Fits fits k) m (sym (mentions_at x k) ∙ on)
