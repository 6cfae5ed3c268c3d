-- What a case unfolds to (R5RS 4.2.1): a let of the key to a local that occurs nowhere else, and in it the ifs of the branches
-- in order, with the last expression at the end. The test of a branch compares the local with each label in order, and joins
-- the comparisons as `or` does. All of these stand at the place of the case.
use Rattle.std.specs.Prelude.{◌≡◌, ℕ, ◌≤◌, ℤ, nat_abs, true, false, Bool, List, [], ◌∷◌}
use Rattle.ps_base.specs.declared.faults.Place.{Place}
use Rattle.ps_base.specs.declared.language.PrimName.{PrimName}
use Rattle.ps_base.specs.declared.language.PrimName.TheVariants as prims
use Rattle.ps_kernel.specs.declared.expr.CaseKind.{CaseKind}
use Rattle.ps_kernel.specs.declared.expr.CaseKind.TheVariants as kinds
use Rattle.ps_kernel.specs.declared.expr.Constant.{Constant}
use Rattle.ps_kernel.specs.declared.expr.Constant.TheVariants as constants
use Rattle.ps_kernel.specs.declared.expr.Expr.{Expr}
use Rattle.ps_kernel.specs.declared.expr.ExprKind.TheVariants as v
use Rattle.ps_kernel.specs.declared.expr.Labelled.{Labelled}
use Rattle.ps_kernel.specs.declared.kernel.Kernel.{Kernel}
use Rattle.ps_kernel.specs.Most.{most_depth}
use Rattle.ps_kernel.specs.Texts.{expr_at}
use Rattle.ps_kernel.specs.Marks.{Mark, Node, TooDeep, Replaces, Whole, labels_of, body_of, marks}

-- the comparison of a kind of case, and the constant of a label
abbrev pub comparison : CaseKind → PrimName
comparison kinds.Integer = prims.Equal
comparison kinds.Char = prims.CharEqual

abbrev pub constant_of : CaseKind → ℤ → Constant
constant_of kinds.Integer l = constants.Integer l
constant_of kinds.Char l = constants.Char (nat_abs l)

module _ (at : Place) (kind : CaseKind) (hidden : ℕ) where
  abbrev pub equals : ℤ → Expr
  equals l = expr_at at (v.Primitive (comparison kind) (expr_at at (v.Local hidden) ∷ expr_at at (v.Constant (constant_of kind l)) ∷ []))

  -- whether the local is one of the labels
  abbrev pub is_one : List ℤ → Expr
  is_one [] = expr_at at (v.Constant (constants.Boolean false))
  is_one (l ∷ []) = equals l
  is_one (l ∷ m ∷ ls) = expr_at at (v.If (equals l) (expr_at at (v.Constant (constants.Boolean true))) (is_one (m ∷ ls)))

  abbrev pub ifs : List Labelled → Expr → Expr
  ifs [] e = e
  ifs (b ∷ bs) e = expr_at at (v.If (is_one (labels_of b)) (body_of b) (ifs bs e))

  abbrev pub unfolded : Expr → List Labelled → Expr → Expr
  unfolded a bs e = expr_at at (v.Let hidden a (ifs bs e))

-- the marks that tell how many expressions there are, how deep they stand and which calls stand in tail position
abbrev pub measured : List Mark → List Mark
measured [] = []
measured (Node at ∷ ms) = Node at ∷ measured ms
measured (TooDeep ∷ ms) = TooDeep ∷ measured ms
measured (Replaces tail ∷ ms) = Replaces tail ∷ measured ms
measured (m ∷ ms) = measured ms

-- A case is as large, and its proper calls stand, as in what it unfolds to, whichever local is the hidden one.
abbrev pub CasesUnfold : Type 0
CasesUnfold =
    (k : Kernel) (at : Place) (kind : CaseKind) (hidden : ℕ) (a : Expr) (bs : List Labelled) (e : Expr) (n : ℕ) → n ≤ most_depth
    → (tail : Bool) (scope : List ℕ)
    → measured (marks k n tail scope (Whole (unfolded at kind hidden a bs e)))
    ≡ measured (marks k n tail scope (Whole (expr_at at (v.Case kind a bs e))))
