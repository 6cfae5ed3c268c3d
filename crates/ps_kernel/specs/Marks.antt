-- The text of an expression, read from left to right, as a list of marks (R5RS 4.1 and 4.2 for what stands in it).
--
-- Read `marks` first: the text of an expression begins with the mark of the expression itself, and goes on as `layer` says,
-- a line for each kind of expression. The body of a lambda is read where the lambda stands. What is read is told whether it
-- stands in tail position, and which locals are in scope there. It is read to a number of levels: a part stands one level
-- below its whole, and the body of a lambda one below the expression in which the lambda stands. What lies deeper is
-- `TooDeep`. A case is read as a let of its key to a local without a number, and in it an if for each branch, whose test
-- compares the key with each label.
use Rattle.std.specs.Prelude.{ℕ, zero, suc, ℤ, Bool, true, false, List, [], ◌∷◌, ◌++◌, length, map, Option, Some, None, slice_get}
use Rattle.std.specs.List.{flat_map}
use Rattle.ps_base.specs.declared.faults.Place.{Place}
use Rattle.ps_base.specs.declared.language.PrimName.{PrimName}
use Rattle.ps_kernel.specs.declared.expr.CaseKind.{CaseKind}
use Rattle.ps_kernel.specs.declared.expr.Constant.{Constant}
use Rattle.ps_kernel.specs.declared.expr.Constant.TheVariants as c
use Rattle.ps_kernel.specs.declared.expr.GroupEntry.{GroupEntry}
use Rattle.ps_kernel.specs.declared.expr.Expr.{Expr, out-Expr}
use Rattle.ps_kernel.specs.declared.expr.ExprKind.{ExprKind, out-ExprKind}
use Rattle.ps_kernel.specs.declared.expr.ExprKind.TheOpen.{ExprKind-F}
use Rattle.ps_kernel.specs.declared.expr.Labelled.{Labelled, out-Labelled}
use Rattle.ps_kernel.specs.declared.kernel.Kernel.{Kernel}
use Rattle.ps_kernel.specs.declared.kernel.Lambda.{Lambda}

pub data Mark : Type 0 where
  -- an expression, and its place
  Node : Place → Mark
  -- an expression below the last level
  TooDeep : Mark
  -- the lambda of this number stands here, in this group or in none
  Stands : ℕ → List GroupEntry → Mark
  -- a local is bound: as a parameter, by a let, by a letrec
  BindsParameter : ℕ → Mark
  BindsLet : ℕ → Mark
  BindsEntry : GroupEntry → Mark
  -- a local is mentioned or assigned, where these are in scope
  Mentions : ℕ → List ℕ → Mark
  Sets : ℕ → List ℕ → Mark
  -- a definition is read or assigned
  Reads : Place → ℕ → Mark
  Assigns : Place → ℕ → Mark
  -- a literal is quoted
  Quotes : Place → ℕ → Mark
  -- a sequence of so many parts
  Sequence : ℕ → Mark
  -- a call that takes the place of its procedure, and whether it stands in tail position (R5RS 3.5)
  Replaces : Bool → Mark
  -- a primitive with so many operands
  Performs : Place → PrimName → ℕ → Mark
  -- a case with these branches
  Chooses : CaseKind → List Labelled → Mark

-- what is read: an expression, or what a case at a place unfolds to
pub data Piece : Type 0 where
  Whole : Expr → Piece
  -- an if for the first branch, and the others behind it
  Choice : Place → Labelled → List Labelled → Expr → Piece
  -- whether the key is one label, or one of these
  AnyOf : Place → List ℤ → Piece
  Same : Place → Piece
  -- the key itself, a label, true or false
  Atom : Place → Piece

abbrev pub place_of : Piece → Place
place_of (Whole e) = (out-Expr e).place
place_of (Choice at b bs e) = at
place_of (AnyOf at ls) = at
place_of (Same at) = at
place_of (Atom at) = at

-- the branches in order, with the last expression at the end
abbrev pub choice_of : Place → List Labelled → Expr → Piece
choice_of at [] e = Whole e
choice_of at (b ∷ bs) e = Choice at b bs e

-- comparisons with each label in order, joined as `or` does
abbrev pub test_of : Place → List ℤ → Piece
test_of at [] = Atom at
test_of at (l ∷ []) = Same at
test_of at (l ∷ m ∷ ls) = AnyOf at (m ∷ ls)

abbrev pub labels_of : Labelled → List ℤ
labels_of b = (out-Labelled b).labels

abbrev pub body_of : Labelled → Expr
body_of b = (out-Labelled b).body

-- the locals of a group
abbrev pub locals_of : List GroupEntry → List ℕ
locals_of g = map (λ (e : GroupEntry). e.local) g

-- how a piece is read, in tail position or not, and where these locals are in scope
abbrev pub Reading : Type 0
Reading = Bool → List ℕ → Piece → List Mark

abbrev pub constant_marks : Place → Constant → List Mark
constant_marks at (c.Integer i) = []
constant_marks at (c.Boolean b) = []
constant_marks at (c.Char b) = []
constant_marks at c.Unit = []
constant_marks at c.NullAddress = []
constant_marks at (c.Quoted q) = Quotes at q ∷ []

-- the last part stands in tail position where the sequence does
abbrev pub sequence_marks : Reading → Bool → List ℕ → List Expr → List Mark
sequence_marks inner tail scope [] = []
sequence_marks inner tail scope (e ∷ []) = inner tail scope (Whole e)
sequence_marks inner tail scope (e ∷ f ∷ es) = inner false scope (Whole e) ++ sequence_marks inner tail scope (f ∷ es)

-- parts of which none stands in tail position
abbrev pub part_marks : Reading → List ℕ → List Expr → List Mark
part_marks inner scope es = flat_map (λ e. inner false scope (Whole e)) es

-- the body of a lambda stands in tail position, and its parameters are in scope there
abbrev pub body_marks : Reading → List ℕ → Option Lambda → List Mark
body_marks inner scope None = []
body_marks inner scope (Some m) = map BindsParameter m.parameters ++ inner true (m.parameters ++ scope) (Whole m.body)

module _ (k : Kernel) where
  -- a lambda in its group or in none
  abbrev pub lambda_marks : Reading → List ℕ → List GroupEntry → ℕ → List Mark
  lambda_marks inner scope g l = Stands l g ∷ body_marks inner scope (slice_get k.lambdas l)

  -- some entries of a group
  abbrev pub group_marks : Reading → List ℕ → List GroupEntry → List GroupEntry → List Mark
  group_marks inner scope g es = flat_map (λ (e : GroupEntry). lambda_marks inner scope g e.lambda) es

  abbrev pub kind_marks : Reading → Bool → List ℕ → Place → ExprKind-F ExprKind Expr Labelled → List Mark
  kind_marks inner tail scope at (ExprKind-F.Constant c) = constant_marks at c
  kind_marks inner tail scope at (ExprKind-F.Local x) = Mentions x scope ∷ []
  kind_marks inner tail scope at (ExprKind-F.Global g) = Reads at g ∷ []
  kind_marks inner tail scope at (ExprKind-F.Lambda l) = lambda_marks inner scope [] l
  kind_marks inner tail scope at (ExprKind-F.If a b c) =
      inner false scope (Whole a) ++ (inner tail scope (Whole b) ++ inner tail scope (Whole c))
  kind_marks inner tail scope at (ExprKind-F.Let x a b) = inner false scope (Whole a) ++ (BindsLet x ∷ inner tail (x ∷ scope) (Whole b))
  kind_marks inner tail scope at (ExprKind-F.Letrec g b) =
      map BindsEntry g ++ (group_marks inner (locals_of g ++ scope) g g ++ inner tail (locals_of g ++ scope) (Whole b))
  kind_marks inner tail scope at (ExprKind-F.Begin es) = Sequence (length es) ∷ sequence_marks inner tail scope es
  kind_marks inner tail scope at (ExprKind-F.SetGlobal g a) = Assigns at g ∷ inner false scope (Whole a)
  kind_marks inner tail scope at (ExprKind-F.SetLocal x a) = Sets x scope ∷ inner false scope (Whole a)
  kind_marks inner tail scope at (ExprKind-F.Case kind a bs e) =
      Chooses kind bs ∷ (inner false scope (Whole a) ++ inner tail scope (choice_of at bs e))
  kind_marks inner tail scope at (ExprKind-F.Call f es) = inner false scope (Whole f) ++ part_marks inner scope es
  kind_marks inner tail scope at (ExprKind-F.ProperCall f es) = Replaces tail ∷ (inner false scope (Whole f) ++ part_marks inner scope es)
  kind_marks inner tail scope at (ExprKind-F.Primitive p es) = Performs at p (length es) ∷ part_marks inner scope es

  abbrev pub layer : Reading → Bool → List ℕ → Piece → List Mark
  layer inner tail scope (Whole e) = kind_marks inner tail scope (out-Expr e).place (out-ExprKind (out-Expr e).kind)
  layer inner tail scope (Choice at b bs e) =
      inner false scope (test_of at (labels_of b)) ++ (inner tail scope (Whole (body_of b)) ++ inner tail scope (choice_of at bs e))
  layer inner tail scope (AnyOf at ls) = inner false scope (Same at) ++ (inner tail scope (Atom at) ++ inner tail scope (test_of at ls))
  layer inner tail scope (Same at) = inner false scope (Atom at) ++ inner false scope (Atom at)
  layer inner tail scope (Atom at) = []

  -- the marks of a piece, read to so many levels
  unfoldable pub marks : ℕ → Reading
  marks zero tail scope p = TooDeep ∷ []
  marks (suc n) tail scope p = Node (place_of p) ∷ layer (marks n) tail scope p
