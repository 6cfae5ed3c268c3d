-- No lambda of the kernel of a program stands in a group, since there is no letrec.
-- For: `kernels_do_the_same`
use Rattle.std.proofs.Common.{◌≡◌, ℕ, zero, suc, ◌+◌, List, [], ◌∷◌, ◌++◌, map, Option, Some, None, refl, sym, ap, ◌∙◌, subst}
use Rattle.std.specs.Prelude.{Bool, true, false, if◌then◌else◌, ◌==◌, slice_get}
use Rattle.std.specs.Option.{option_map}
use Rattle.std.specs.List.{AllByRecursion}
use Rattle.ps_base.specs.declared.faults.Place.{Place}
use Rattle.ps_base.specs.declared.names.Name.{Name}
use Rattle.ps_base.specs.declared.language.PrimName.{PrimName}
use Rattle.ps_kernel.specs.declared.expr.Expr.{Expr, out-roll-Expr}
use Rattle.ps_kernel.specs.declared.expr.ExprKind.{ExprKind, out-ExprKind}
use Rattle.ps_kernel.specs.declared.expr.ExprKind.TheOpen.{ExprKind-F, Expr-F}
use Rattle.ps_kernel.specs.declared.expr.ExprKind.TheVariants as kinds
use Rattle.ps_kernel.specs.declared.expr.Labelled.{Labelled}
use Rattle.ps_kernel.specs.declared.expr.Constant.TheVariants as constants
use Rattle.ps_kernel.specs.declared.kernel.Kernel.{Kernel}
use Rattle.ps_kernel.specs.Most.{most_depth}
use Rattle.ps_kernel.specs.Marks.{Mark, Node, Stands, BindsParameter, Whole, part_marks, sequence_marks, body_marks, kind_marks, marks}
use Rattle.ps_kernel.specs.Texts.{expr_at, group_in, form_marks, text, group_of}
use Rattle.ps_plain.specs.declared.program.Expr.{Expr as PlainExpr}
use Rattle.ps_plain.specs.declared.program.Write.{Write}
use Rattle.ps_plain.specs.declared.program.Procedure.{Procedure as PlainProcedure}
use Rattle.ps_plain.specs.declared.program.Program.{Program as PlainProgram}
use Rattle.ps_plain.proofs.Trees as trees
use Rattle.ps_convert.specs.Kernels.{primitive, comparison, operator, node, expr_of, write_of, sequence, body_of, numbers_from, lambda_of, lambdas_from, forms_from, kernel_of}

-- ---- the lambda of each number

-- the first local of the procedure of this number
pub offset : ℕ → List PlainProcedure → ℕ → ℕ
offset first [] f = first
offset first (q ∷ qs) zero = first
offset first (q ∷ qs) (suc f) = offset (first + q.parameters) qs f

pub lambda_at : (first : ℕ) (qs : List PlainProcedure) (f : ℕ) → slice_get (lambdas_from first qs) f ≡ option_map (lambda_of (offset first qs f)) (slice_get qs f)
unfolding offset
lambda_at first [] f = refl
lambda_at first (q ∷ qs) zero = refl
lambda_at first (q ∷ qs) (suc f) = lambda_at (first + q.parameters) qs f

-- ---- marks

none_where : {A : Type 0} (b : Bool) (xs ys zs : List A) → (if b then xs else ys) ≡ [] → (ys ≡ [] → zs ≡ []) → (if b then xs else zs) ≡ []
none_where true xs ys zs h next = h
none_where false xs ys zs h next = next h

none_either : {A : Type 0} (b : Bool) (ys : List A) → ys ≡ [] → (if b then [] else ys) ≡ []
none_either true ys h = refl
none_either false ys h = h

module _ (k : Kernel) (l : ℕ) where
  -- the lambda stands in no group there
  abbrev IsAlone : List Mark → Type 0
  IsAlone ms = group_in l ms ≡ []

  both_alone : (xs ys : List Mark) → IsAlone xs → IsAlone ys → IsAlone (xs ++ ys)
  both_alone [] ys h i = i
  both_alone (Stands n g ∷ xs) ys h i = none_where (l == n) g (group_in l xs) (group_in l (xs ++ ys)) h (λ rest. both_alone xs ys rest i)
  both_alone (m ∷ xs) ys h i = both_alone xs ys h i

  parameters_alone : (xs : List ℕ) (ys : List Mark) → IsAlone ys → IsAlone (map BindsParameter xs ++ ys)
  parameters_alone [] ys h = h
  parameters_alone (x ∷ xs) ys h = parameters_alone xs ys h

  -- ---- expressions, read to any number of levels

  abbrev IsAloneIn : Expr → Type 0
  IsAloneIn e = (n : ℕ) (tail : Bool) (scope : List ℕ) → IsAlone (marks k n tail scope (Whole e))

  at_kind : (p : Place) (x : ExprKind) (y : ExprKind-F ExprKind Expr Labelled) → out-ExprKind x ≡ y
      → ((n : ℕ) (tail : Bool) (scope : List ℕ) → IsAlone (kind_marks k (marks k n) tail scope p y)) → IsAloneIn (expr_at p x)
  unfolding marks
  at_kind p x y is inner zero tail scope = refl
  at_kind p x y is inner (suc n) tail scope =
      ap (λ (z : Expr-F ExprKind Expr Labelled). group_in l (Node z.place ∷ kind_marks k (marks k n) tail scope z.place (out-ExprKind z.kind))) (out-roll-Expr (record { place = p; kind = x }))
      ∙ ap (λ (z : ExprKind-F ExprKind Expr Labelled). group_in l (kind_marks k (marks k n) tail scope p z)) is ∙ inner n tail scope

  parts_alone : (n : ℕ) (scope : List ℕ) (es : List Expr) → AllByRecursion IsAloneIn es → IsAlone (part_marks (marks k n) scope es)
  parts_alone n scope [] all = refl
  parts_alone n scope (e ∷ es) all = both_alone (marks k n false scope (Whole e)) (part_marks (marks k n) scope es) (all.0 n false scope) (parts_alone n scope es all.1)

  sequence_alone : (n : ℕ) (tail : Bool) (scope : List ℕ) (es : List Expr) → AllByRecursion IsAloneIn es → IsAlone (sequence_marks (marks k n) tail scope es)
  sequence_alone n tail scope [] all = refl
  sequence_alone n tail scope (e ∷ []) all = all.0 n tail scope
  sequence_alone n tail scope (e ∷ d ∷ es) all =
      both_alone (marks k n false scope (Whole e)) (sequence_marks (marks k n) tail scope (d ∷ es)) (all.0 n false scope) (sequence_alone n tail scope (d ∷ es) all.1)

  primitive_alone : (p : Place) (name : PrimName) (es : List Expr) → AllByRecursion IsAloneIn es → IsAloneIn (primitive p name es)
  primitive_alone p name es all = at_kind p (kinds.Primitive name es) (ExprKind-F.Primitive name es) (kinds.outs-Primitive name es) (λ n tail scope. parts_alone n scope es all)

  if_alone : (p : Place) (a b c : Expr) → IsAloneIn a → IsAloneIn b → IsAloneIn c → IsAloneIn (expr_at p (kinds.If a b c))
  if_alone p a b c ha hb hc =
      at_kind p (kinds.If a b c) (ExprKind-F.If a b c) (kinds.outs-If a b c)
      (λ n tail scope. both_alone (marks k n false scope (Whole a)) (marks k n tail scope (Whole b) ++ marks k n tail scope (Whole c)) (ha n false scope) (both_alone (marks k n tail scope (Whole b)) (marks k n tail scope (Whole c)) (hb n tail scope) (hc n tail scope)))

  call_alone : (p at : Place) (f : ℕ) (es : List Expr) → AllByRecursion IsAloneIn es → IsAloneIn (expr_at p (kinds.Call (expr_at at (kinds.Global f)) es))
  call_alone p at f es all =
      at_kind p (kinds.Call (expr_at at (kinds.Global f)) es) (ExprKind-F.Call (expr_at at (kinds.Global f)) es) (kinds.outs-Call (expr_at at (kinds.Global f)) es)
      (λ n tail scope. both_alone (marks k n false scope (Whole (expr_at at (kinds.Global f)))) (part_marks (marks k n) scope es) (at_kind at (kinds.Global f) (ExprKind-F.Global f) (kinds.outs-Global f) (λ m t s. refl) n false scope) (parts_alone n scope es all))

  module _ (first : ℕ) where
    abbrev IsAloneHere : PlainExpr → Type 0
    IsAloneHere e = IsAloneIn (expr_of first e)

    by_fold : (e : PlainExpr) (x : Expr) → expr_of first e ≡ x → IsAloneIn x → IsAloneHere e
    by_fold e x is h = subst IsAloneIn (sym is) h

    each_alone : (es : List PlainExpr) → AllByRecursion IsAloneHere es → AllByRecursion IsAloneIn (map (expr_of first) es)
    each_alone [] all = tt
    each_alone (e ∷ es) all = (all.0, each_alone es all.1)

    expression_alone : (e : PlainExpr) → IsAloneHere e
    expression_alone = trees.induction IsAloneHere
        (λ p i. by_fold _ _ (trees.fold-integer (node first) p i) (at_kind p (kinds.Constant (constants.Integer i)) (ExprKind-F.Constant (constants.Integer i)) (kinds.outs-Constant (constants.Integer i)) (λ n t s. refl)))
        (λ p j. by_fold _ _ (trees.fold-parameter (node first) p j) (at_kind p (kinds.Local (first + j)) (ExprKind-F.Local (first + j)) (kinds.outs-Local (first + j)) (λ n t s. refl)))
        (λ p o a b ha hb. by_fold _ _ (trees.fold-operation (node first) p o a b) (primitive_alone p (operator o) (expr_of first a ∷ expr_of first b ∷ []) (ha, (hb, tt))))
        (λ p at q a b c d ha hb hc hd.
        by_fold _ _ (trees.fold-if (node first) p at q a b c d)
        (if_alone p (primitive at (comparison q) (expr_of first a ∷ expr_of first b ∷ [])) (expr_of first c) (expr_of first d) (primitive_alone at (comparison q) (expr_of first a ∷ expr_of first b ∷ []) (ha, (hb, tt))) hc hd))
        (λ p at f es all. by_fold _ _ (trees.fold-call (node first) p at f es) (call_alone p at f (map (expr_of first) es) (each_alone es all)))
        (λ p. by_fold _ _ (trees.fold-read (node first) p) (primitive_alone p _ [] tt))

    writes_alone : (ws : List Write) (v : PlainExpr) → AllByRecursion IsAloneIn (map (write_of first) ws ++ expr_of first v ∷ [])
    writes_alone [] v = (expression_alone v, tt)
    writes_alone (w ∷ ws) v = (primitive_alone w.place _ (expr_of first w.value ∷ []) (expression_alone w.value, tt), writes_alone ws v)

    body_alone : (p : Place) (ws : List Write) (v : PlainExpr) → IsAloneIn (sequence p (map (write_of first) ws) (expr_of first v))
    body_alone p [] v = expression_alone v
    body_alone p (w ∷ ws) v =
        let es = map (write_of first) (w ∷ ws) ++ expr_of first v ∷ [] in
        at_kind p (kinds.Begin es) (ExprKind-F.Begin es) (kinds.outs-Begin es) (λ n tail scope. sequence_alone n tail scope es (writes_alone (w ∷ ws) v))

    lambda_alone : (n : ℕ) (scope : List ℕ) (o : Option PlainProcedure) → IsAlone (body_marks (marks k n) scope (option_map (lambda_of first) o))
    lambda_alone n scope None = refl
    lambda_alone n scope (Some q) = parameters_alone (numbers_from first q.parameters) (marks k n true (numbers_from first q.parameters ++ scope) (Whole (body_of first q))) (body_alone q.place q.writes q.value n true (numbers_from first q.parameters ++ scope))

-- ---- the kernel of a program

module _ (structure : Name) (p : PlainProgram) (l : ℕ) where
  abbrev k : Kernel
  k = kernel_of structure p

  defined_alone : (at : Place) (m : ℕ) → IsAloneIn k l (expr_at at (kinds.Lambda m))
  defined_alone at m =
      at_kind k l at (kinds.Lambda m) (ExprKind-F.Lambda m) (kinds.outs-Lambda m)
      (λ n tail scope. none_either (l == m) (group_in l (body_marks (marks k n) scope (slice_get k.lambdas m))) (ap (λ o. group_in l (body_marks (marks k n) scope o)) (lambda_at 0 p.procedures m) ∙ lambda_alone k l (offset 0 p.procedures m) n scope (slice_get p.procedures m)))

  forms_alone : (n m : ℕ) (qs : List PlainProcedure) → IsAlone k l (form_marks k n (forms_from m qs))
  forms_alone n m [] = refl
  forms_alone n m (q ∷ qs) = both_alone k l (marks k n false [] (Whole (expr_at q.place (kinds.Lambda m)))) (form_marks k n (forms_from (suc m) qs)) (defined_alone q.place m n false []) (forms_alone n (suc m) qs)

  pub no_group : group_of k l ≡ []
  unfolding group_of text
  no_group = forms_alone most_depth 0 p.procedures
