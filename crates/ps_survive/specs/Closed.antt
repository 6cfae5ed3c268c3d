-- Sets of definitions, lambdas and blocks that nothing in them leads out of (this project's own).
--
-- Read `IsClosed p r` as: `main` of program p is in the set r, and so is what each member of r leads to: a definition to its value
-- or its lambda, a block to the values of its cells, and the body of a lambda to what it names. Read `closed_node` as a table
-- with a row for each kind of expression: all that it names is in the set.
use Rattle.std.specs.Prelude.{◌≡◌, ℕ, Bool, true, ◌&&◌, List, [], ◌∷◌, Option, Some, None, slice_get}
use Rattle.byte_store.specs.declared.pointer.Value.{Value}
use Rattle.byte_store.specs.Blocks.{Cells, find}
use Rattle.ps_kernel.specs.declared.expr.Constant.{Constant}
use Rattle.ps_kernel.specs.declared.expr.Constant.TheVariants as constants
use Rattle.ps_kernel.specs.declared.expr.GroupEntry.{GroupEntry}
use Rattle.ps_kernel.specs.declared.expr.Expr.{Expr, fold-Expr}
use Rattle.ps_kernel.specs.declared.expr.ExprKind.TheOpen.{ExprKind-F}
use Rattle.ps_kernel.specs.declared.kernel.Lambda.{Lambda}
use Rattle.ps_kernel.specs.Texts.{procedure_of}
use Rattle.ps_meaning.specs.Source.{Program}
use Rattle.ps_survive.specs.declared.steps.Mark.{Mark}
use Rattle.ps_survive.specs.declared.steps.Mark.TheVariants as marks
use Rattle.ps_survive.specs.declared.steps.Node.{Node}
use Rattle.ps_survive.specs.declared.steps.Node.TheVariants as nodes
use Rattle.ps_kernel.specs.Lists.{Among}
use Rattle.ps_survive.specs.Steps.{has, mark_names, value_names}
use Rattle.ps_survive.specs.Walk.{main_node}

-- definitions, lambdas and blocks
pub record Reached : Type 0 where
  pub definitions : ℕ → Bool
  pub lambdas : ℕ → Bool
  pub blocks : ℕ → Bool

abbrev pub reached_by : List Node → Reached
reached_by found = record { definitions = λ g. has found (nodes.Global g); lambdas = λ l. has found (nodes.Inner l); blocks = λ b. has found (nodes.Data b) }

abbrev pub all_of : List Bool → Bool
all_of [] = true
all_of (b ∷ bs) = b && all_of bs

module _ (p : Program) (r : Reached) where
  abbrev pub in_set : Node → Bool
  in_set (nodes.Global g) = r.definitions g
  in_set (nodes.Inner l) = r.lambdas l
  in_set (nodes.Data b) = r.blocks b

  -- what is named is in the set, if it is there
  abbrev pub named_in : Option Node → Bool
  named_in None = true
  named_in (Some n) = in_set n

  abbrev pub value_in : Value → Bool
  value_in v = named_in (value_names p v)

  abbrev pub mark_in : Mark → Bool
  mark_in x = named_in (mark_names p x)

  abbrev pub constant_in : Constant → Bool
  constant_in (constants.Integer i) = true
  constant_in (constants.Boolean b) = true
  constant_in (constants.Char c) = true
  constant_in constants.Unit = true
  constant_in constants.NullAddress = true
  constant_in (constants.Quoted q) = mark_in (marks.Quotes q)

  abbrev pub group_in : List GroupEntry → Bool
  group_in [] = true
  group_in (e ∷ es) = mark_in (marks.Stands e.lambda) && group_in es

  abbrev pub closed_node : ExprKind-F Bool Bool Bool → Bool
  closed_node (ExprKind-F.Constant c) = constant_in c
  closed_node (ExprKind-F.Local x) = true
  closed_node (ExprKind-F.Global g) = mark_in (marks.Reads g)
  closed_node (ExprKind-F.Lambda l) = mark_in (marks.Stands l)
  closed_node (ExprKind-F.If a b c) = a && (b && c)
  closed_node (ExprKind-F.Let x a b) = a && b
  closed_node (ExprKind-F.Letrec g b) = group_in g && b
  closed_node (ExprKind-F.Begin es) = all_of es
  closed_node (ExprKind-F.SetGlobal g a) = mark_in (marks.Assigns g) && a
  closed_node (ExprKind-F.SetLocal x a) = a
  closed_node (ExprKind-F.Case kind a bs e) = a && (all_of bs && e)
  closed_node (ExprKind-F.Call f es) = f && all_of es
  closed_node (ExprKind-F.ProperCall f es) = f && all_of es
  closed_node (ExprKind-F.Primitive o es) = all_of es

  abbrev pub closed : Expr → Bool
  closed = fold-Expr Bool Bool Bool closed_node (λ e. e.kind) (λ b. b.body)

  pub record IsClosed : Type 0 where
    pub main : in_set (main_node p) ≡ true
    pub values : (g : ℕ) (v : Value) → r.definitions g ≡ true → procedure_of p.kernel g ≡ None → slice_get p.globals g ≡ Some (Some v) → value_in v ≡ true
    pub procedures : (g l : ℕ) → r.definitions g ≡ true → procedure_of p.kernel g ≡ Some l → mark_in (marks.Stands l) ≡ true
    pub cells : (b : ℕ) (cs : List (Option Value)) (v : Value) → r.blocks b ≡ true → find b p.memory.fixed ≡ Some (Cells cs) → Among (Some v) cs → value_in v ≡ true
    pub bodies : (l : ℕ) (m : Lambda) → r.lambdas l ≡ true → slice_get p.kernel.lambdas l ≡ Some m → closed m.body ≡ true
