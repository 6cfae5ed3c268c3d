-- A type that is no variable is its constructor and its parts, also where its variables are replaced.
-- For: compare_parts
use Rattle.std.proofs.Common.{◌≡◌, ℕ, ◌+◌, List, [], ◌∷◌, map, refl, sym, ap, ◌∙◌, arith}
use Rattle.ps_types.specs.declared.types.Ty.{Ty, Ty-F, map-Ty, roll-Ty, out-Ty, out-roll-Ty, roll-out-Ty}
use Rattle.ps_types.specs.declared.types.Ty.TheVariants.{Integer, rolls-Var}
use Rattle.ps_types.specs.Substitutions.{Substitution, applied, apply, size, size_node, total}
use Rattle.ps_types.proofs.TypesAreTerms.{apply_at, size_at}
use Rattle.ps_types.proofs.InstancesAreNoSmaller.{IsMore}
use Rattle.ps_unify.specs.declared.parts.Shape.{Shape}
use Rattle.ps_unify.specs.declared.parts.Shape.TheVariants as shapes
use Rattle.ps_unify.specs.InsideShapes.{shape_node, shape_of, parameters_node, parameters_of, last_node, last_of, NoVariable}
use Rattle.ps_unify.specs.InsideSteps.{Equal, EqualAll, weight, weights}

more_at : (t : Ty) → NoVariable t → (k : Ty-F Ty) → roll-Ty k ≡ t → IsMore k
more_at t h Ty-F.Integer e = tt
more_at t h Ty-F.Boolean e = tt
more_at t h Ty-F.Char e = tt
more_at t h Ty-F.Unit e = tt
more_at t h Ty-F.Address e = tt
more_at t h Ty-F.Text e = tt
more_at t h (Ty-F.Vector a) e = tt
more_at t h (Ty-F.Tuple k) e = tt
more_at t h (Ty-F.Proc ts r) e = tt
more_at t h (Ty-F.Var y) e = h.other y (sym e ∙ rolls-Var y)

more : (t : Ty) → NoVariable t → IsMore (out-Ty t)
more t h = more_at t h (out-Ty t) (roll-out-Ty t)

-- ---- the constructor and the parts make up the type

abbrev first : List Ty → Ty
first [] = Integer
first (t ∷ ts) = t

abbrev rebuilt : Shape → List Ty → List Ty → Ty-F Ty
rebuilt shapes.Integer ps ls = Ty-F.Integer
rebuilt shapes.Boolean ps ls = Ty-F.Boolean
rebuilt shapes.Char ps ls = Ty-F.Char
rebuilt shapes.Unit ps ls = Ty-F.Unit
rebuilt shapes.Address ps ls = Ty-F.Address
rebuilt shapes.Text ps ls = Ty-F.Text
rebuilt shapes.Vector ps ls = Ty-F.Vector (first ls)
rebuilt (shapes.Tuple k) ps ls = Ty-F.Tuple k
rebuilt shapes.Proc ps ls = Ty-F.Proc ps (first ls)
rebuilt shapes.Var ps ls = Ty-F.Integer

is_rebuilt : (k : Ty-F Ty) → IsMore k → rebuilt (shape_node k) (parameters_node k) (last_node k) ≡ k
is_rebuilt Ty-F.Integer m = refl
is_rebuilt Ty-F.Boolean m = refl
is_rebuilt Ty-F.Char m = refl
is_rebuilt Ty-F.Unit m = refl
is_rebuilt Ty-F.Address m = refl
is_rebuilt Ty-F.Text m = refl
is_rebuilt (Ty-F.Vector a) m = refl
is_rebuilt (Ty-F.Tuple k) m = refl
is_rebuilt (Ty-F.Proc ts r) m = refl
is_rebuilt (Ty-F.Var y) m = absurd m

-- ---- where the variables are replaced

module _ (f : Ty → Ty) where
  shape_map : (k : Ty-F Ty) → shape_node (map-Ty Ty Ty f k) ≡ shape_node k
  shape_map Ty-F.Integer = refl
  shape_map Ty-F.Boolean = refl
  shape_map Ty-F.Char = refl
  shape_map Ty-F.Unit = refl
  shape_map Ty-F.Address = refl
  shape_map Ty-F.Text = refl
  shape_map (Ty-F.Vector a) = refl
  shape_map (Ty-F.Tuple k) = refl
  shape_map (Ty-F.Proc ts r) = refl
  shape_map (Ty-F.Var y) = refl

  parameters_map : (k : Ty-F Ty) → parameters_node (map-Ty Ty Ty f k) ≡ map f (parameters_node k)
  parameters_map Ty-F.Integer = refl
  parameters_map Ty-F.Boolean = refl
  parameters_map Ty-F.Char = refl
  parameters_map Ty-F.Unit = refl
  parameters_map Ty-F.Address = refl
  parameters_map Ty-F.Text = refl
  parameters_map (Ty-F.Vector a) = refl
  parameters_map (Ty-F.Tuple k) = refl
  parameters_map (Ty-F.Proc ts r) = refl
  parameters_map (Ty-F.Var y) = refl

  last_map : (k : Ty-F Ty) → last_node (map-Ty Ty Ty f k) ≡ map f (last_node k)
  last_map Ty-F.Integer = refl
  last_map Ty-F.Boolean = refl
  last_map Ty-F.Char = refl
  last_map Ty-F.Unit = refl
  last_map Ty-F.Address = refl
  last_map Ty-F.Text = refl
  last_map (Ty-F.Vector a) = refl
  last_map (Ty-F.Tuple k) = refl
  last_map (Ty-F.Proc ts r) = refl
  last_map (Ty-F.Var y) = refl

  more_map : (k : Ty-F Ty) → IsMore k → IsMore (map-Ty Ty Ty f k)
  more_map Ty-F.Integer m = tt
  more_map Ty-F.Boolean m = tt
  more_map Ty-F.Char m = tt
  more_map Ty-F.Unit m = tt
  more_map Ty-F.Address m = tt
  more_map Ty-F.Text m = tt
  more_map (Ty-F.Vector a) m = tt
  more_map (Ty-F.Tuple k) m = tt
  more_map (Ty-F.Proc ts r) m = tt
  more_map (Ty-F.Var y) m = m

module _ (θ : Substitution) where
  applied_more : (k : Ty-F Ty) → IsMore k → applied θ k ≡ roll-Ty k
  applied_more Ty-F.Integer m = refl
  applied_more Ty-F.Boolean m = refl
  applied_more Ty-F.Char m = refl
  applied_more Ty-F.Unit m = refl
  applied_more Ty-F.Address m = refl
  applied_more Ty-F.Text m = refl
  applied_more (Ty-F.Vector a) m = refl
  applied_more (Ty-F.Tuple k) m = refl
  applied_more (Ty-F.Proc ts r) m = refl
  applied_more (Ty-F.Var y) m = absurd m

  abbrev node : Ty → Ty-F Ty
  node t = map-Ty Ty Ty (apply θ) (out-Ty t)

  becomes : (t : Ty) → NoVariable t → apply θ t ≡ roll-Ty (node t)
  becomes t h = ap (apply θ) (sym (roll-out-Ty t)) ∙ apply_at θ (out-Ty t) ∙ applied_more (node t) (more_map (apply θ) (out-Ty t) (more t h))

  opens : (t : Ty) → NoVariable t → out-Ty (apply θ t) ≡ node t
  opens t h = ap out-Ty (becomes t h) ∙ out-roll-Ty (node t)

  shape_kept : (t : Ty) → NoVariable t → shape_of (apply θ t) ≡ shape_of t
  shape_kept t h = ap shape_node (opens t h) ∙ shape_map (apply θ) (out-Ty t)

  parameters_kept : (t : Ty) → NoVariable t → parameters_of (apply θ t) ≡ map (apply θ) (parameters_of t)
  parameters_kept t h = ap parameters_node (opens t h) ∙ parameters_map (apply θ) (out-Ty t)

  last_kept : (t : Ty) → NoVariable t → last_of (apply θ t) ≡ map (apply θ) (last_of t)
  last_kept t h = ap last_node (opens t h) ∙ last_map (apply θ) (out-Ty t)

  made_of : (t : Ty) → NoVariable t → apply θ t ≡ roll-Ty (rebuilt (shape_of t) (map (apply θ) (parameters_of t)) (map (apply θ) (last_of t)))
  made_of t h = becomes t h ∙ sym (
      (λ i. roll-Ty (rebuilt (sym (shape_map (apply θ) (out-Ty t)) i) (sym (parameters_map (apply θ) (out-Ty t)) i) (sym (last_map (apply θ) (out-Ty t)) i)))
      ∙ ap roll-Ty (is_rebuilt (node t) (more_map (apply θ) (out-Ty t) (more t h))))

  module _ (a b : Ty) (h : NoVariable a) (g : NoVariable b) where
    pub same_shapes : Equal a b θ → shape_of a ≡ shape_of b
    same_shapes is = sym (shape_kept a h) ∙ ap shape_of is ∙ shape_kept b g

    pub parts_equal : Equal a b θ → EqualAll (parameters_of a) (parameters_of b) θ × EqualAll (last_of a) (last_of b) θ
    parts_equal is = (
      sym (parameters_kept a h) ∙ ap parameters_of is ∙ parameters_kept b g,
      sym (last_kept a h) ∙ ap last_of is ∙ last_kept b g,
    )

    pub equal_of_parts : shape_of a ≡ shape_of b → EqualAll (parameters_of a) (parameters_of b) θ × EqualAll (last_of a) (last_of b) θ → Equal a b θ
    equal_of_parts e is = made_of a h ∙ (λ i. roll-Ty (rebuilt (e i) (is.0 i) (is.1 i))) ∙ sym (made_of b g)

  size_of_node : (k : Ty-F Ty) → IsMore k → size_node (map-Ty Ty ℕ size k) ≡ (total (map size (parameters_node k)) + total (map size (last_node k))) + 1
  size_of_node Ty-F.Integer m = omega arith
  size_of_node Ty-F.Boolean m = omega arith
  size_of_node Ty-F.Char m = omega arith
  size_of_node Ty-F.Unit m = omega arith
  size_of_node Ty-F.Address m = omega arith
  size_of_node Ty-F.Text m = omega arith
  size_of_node (Ty-F.Vector a) m = omega arith
  size_of_node (Ty-F.Tuple k) m = omega arith
  size_of_node (Ty-F.Proc ts r) m = omega arith
  size_of_node (Ty-F.Var y) m = absurd m

  pub weight_of_parts : (t : Ty) → NoVariable t → weight t θ ≡ (weights (parameters_of t) θ + weights (last_of t) θ) + 1
  weight_of_parts t h = ap size (becomes t h) ∙ size_at (node t) ∙ size_of_node (node t) (more_map (apply θ) (out-Ty t) (more t h))
      ∙ (λ i. (total (map size (parameters_map (apply θ) (out-Ty t) i)) + total (map size (last_map (apply θ) (out-Ty t) i))) + 1)
