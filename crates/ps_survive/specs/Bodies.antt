-- What there is to do in the body of a lambda: what its expressions lead to, and the primitives that they perform (R5RS 4.1 and
-- 4.2 for what stands in a body; which of it matters here is this project's own).
--
-- Read `kind_marks` as a table with a row for each kind of expression: its marks, where it stands at a place, in order of its
-- text, those of an expression before those of its parts. A lambda that stands in a body has one mark, `Stands`, and its own
-- body is not read with it; those of a letrec come in order before the letrec's body. A case compares by primitives that no
-- survivor is refused for, so it has the marks of its key, of its branches and of its last expression.
use Rattle.std.specs.Prelude.{List, [], ◌∷◌, ◌++◌, map}
use Rattle.ps_base.specs.declared.faults.Place.{Place}
use Rattle.ps_kernel.specs.declared.expr.Constant.{Constant}
use Rattle.ps_kernel.specs.declared.expr.Constant.TheVariants as constants
use Rattle.ps_kernel.specs.declared.expr.GroupEntry.{GroupEntry}
use Rattle.ps_kernel.specs.declared.expr.Expr.{Expr, fold-Expr}
use Rattle.ps_kernel.specs.declared.expr.ExprKind.{ExprKind, fold-ExprKind}
use Rattle.ps_kernel.specs.declared.expr.ExprKind.TheOpen.{ExprKind-F}
use Rattle.ps_kernel.specs.declared.expr.Labelled.{Labelled, fold-Labelled}
use Rattle.ps_survive.specs.declared.steps.Mark.{Mark}
use Rattle.ps_survive.specs.declared.steps.Mark.TheVariants as marks
use Rattle.ps_survive.specs.declared.steps.Marked.{Marked}

abbrev pub marked : Place → Mark → Marked
marked at x = record { at = at; mark = x }

-- parts, one behind another
abbrev pub joined : List (List Marked) → List Marked
joined [] = []
joined (x ∷ xs) = x ++ joined xs

abbrev pub constant_marks : Place → Constant → List Marked
constant_marks at (constants.Integer i) = []
constant_marks at (constants.Boolean b) = []
constant_marks at (constants.Char c) = []
constant_marks at constants.Unit = []
constant_marks at constants.NullAddress = []
constant_marks at (constants.Quoted q) = marked at (marks.Quotes q) ∷ []

-- the lambdas of a letrec
abbrev pub group_marks : Place → List GroupEntry → List Marked
group_marks at g = map (λ (e : GroupEntry). marked at (marks.Stands e.lambda)) g

abbrev pub kind_marks : ExprKind-F (Place → List Marked) (List Marked) (List Marked) → Place → List Marked
kind_marks (ExprKind-F.Constant c) at = constant_marks at c
kind_marks (ExprKind-F.Local x) at = []
kind_marks (ExprKind-F.Global g) at = marked at (marks.Reads g) ∷ []
kind_marks (ExprKind-F.Lambda l) at = marked at (marks.Stands l) ∷ []
kind_marks (ExprKind-F.If a b c) at = a ++ (b ++ c)
kind_marks (ExprKind-F.Let x a b) at = a ++ b
kind_marks (ExprKind-F.Letrec g b) at = group_marks at g ++ b
kind_marks (ExprKind-F.Begin es) at = joined es
kind_marks (ExprKind-F.SetGlobal g a) at = marked at (marks.Assigns g) ∷ a
kind_marks (ExprKind-F.SetLocal x a) at = a
kind_marks (ExprKind-F.Case kind a bs e) at = a ++ (joined bs ++ e)
kind_marks (ExprKind-F.Call f es) at = f ++ joined es
kind_marks (ExprKind-F.ProperCall f es) at = f ++ joined es
kind_marks (ExprKind-F.Primitive p es) at = marked at (marks.Performs p) ∷ joined es

abbrev pub marks_of : Expr → List Marked
marks_of = fold-Expr (Place → List Marked) (List Marked) (List Marked) kind_marks (λ e. e.kind e.place) (λ b. b.body)

-- those of what stands at a place, and those of a branch
abbrev pub marks_in : ExprKind → Place → List Marked
marks_in = fold-ExprKind (Place → List Marked) (List Marked) (List Marked) kind_marks (λ e. e.kind e.place) (λ b. b.body)

abbrev pub branch_marks : Labelled → List Marked
branch_marks = fold-Labelled (Place → List Marked) (List Marked) (List Marked) kind_marks (λ e. e.kind e.place) (λ b. b.body)
