-- `case` (R5RS 4.2.1): which is a node of its own, how its nodes are counted, and what it is otherwise.
use Rattle.std.specs.Prelude.{ℕ, ℤ, pos, ◌-◌, Bool, true, false, ◌&&◌, nat_le, nat_lt, List, [], ◌∷◌, length, map, Option, Some, None, if◌then◌else◌}
use Rattle.std.specs.List.{flat_map, list_all}
use Rattle.ps_base.specs.declared.faults.Place.{Place}
use Rattle.ps_base.specs.declared.language.PrimName.{PrimName}
use Rattle.ps_base.specs.declared.language.PrimName.TheVariants as p
use Rattle.ps_base.specs.declared.limits.Limits.{Limits}
use Rattle.ps_derived.specs.PartsOf.{CaseClauseOf}
use Rattle.ps_derived.specs.declared.types.Label.{Label}
use Rattle.ps_derived.specs.declared.types.Label.TheVariants as d
use Rattle.ps_kernel.specs.Texts.{expr_at}
use Rattle.ps_kernel.specs.Most.{most_labels}
use Rattle.ps_kernel.specs.Rules.{differ}
use Rattle.ps_kernel.specs.declared.expr.CaseKind.{CaseKind}
use Rattle.ps_kernel.specs.declared.expr.CaseKind.TheVariants as kinds
use Rattle.ps_kernel.specs.declared.expr.Constant.{Constant}
use Rattle.ps_kernel.specs.declared.expr.Constant.TheVariants as c
use Rattle.ps_kernel.specs.declared.expr.Expr.{Expr}
use Rattle.ps_kernel.specs.declared.expr.ExprKind.TheVariants as k
use Rattle.ps_kernel.specs.declared.expr.Labelled.{Labelled, roll-Labelled}
use Rattle.ps_hygiene.specs.Runs.{Run, ◌>>◌}
use Rattle.ps_bodies.specs.declared.branches.Branch.{Branch}
use Rattle.ps_expansion.specs.Names.{mention}
use Rattle.ps_expansion.specs.States.{State, node}

-- ---- which is a node

abbrev pub integer_of : Label → Option ℤ
integer_of (d.Integer n) = Some n
integer_of other = None

abbrev pub char_of : Label → Option ℤ
char_of (d.Char n) = Some (pos n)
char_of other = None

-- the code of a datum of a kind
abbrev pub code_in : CaseKind → Label → Option ℤ
code_in kinds.Integer l = integer_of l
code_in kinds.Char l = char_of l

abbrev pub before : {A : Type 0} → Option A → Option (List A) → Option (List A)
before (Some x) (Some xs) = Some (x ∷ xs)
before (Some x) None = None
before None xs = None

-- all of them, or nothing where one is missing
abbrev pub all_by : {A B : Type 0} → (A → Option B) → List A → Option (List B)
all_by f [] = Some []
all_by f (x ∷ xs) = before (f x) (all_by f xs)

abbrev pub labels_of_all : List CaseClauseOf → List Label
labels_of_all cs = flat_map (λ c. c.labels) cs

abbrev pub has_labels : CaseClauseOf → Bool
has_labels c = nat_lt 0 (length c.labels)

-- all different, from 1 to 1,023 in number
abbrev pub are_labels : Option (List ℤ) → Bool
are_labels None = false
are_labels (Some ls) = nat_lt 0 (length ls) && (nat_le (length ls) most_labels && differ ls)

abbrev pub kind_of : List CaseClauseOf → Option CaseKind
kind_of cs = if list_all has_labels cs && are_labels (all_by (code_in kinds.Integer) (labels_of_all cs)) then Some kinds.Integer
    else (if list_all has_labels cs && are_labels (all_by (code_in kinds.Char) (labels_of_all cs)) then Some kinds.Char else None)

-- ---- the nodes of the tests

module _ (limits : Limits) where
  -- a comparison of the key with a label
  abbrev pub same_counted : ℕ → Place → Run State (Unit {0})
  same_counted left at = node limits left at >> node limits (left - 1) at >> node limits (left - 1) at

  -- a comparison that is joined with those behind it, as `or` does: the `if`, the comparison, and the constant for true
  abbrev pub join_counted : ℕ → Place → Run State (Unit {0})
  join_counted left at = node limits left at >> same_counted (left - 1) at >> node limits (left - 1) at

  -- a comparison and those behind it
  abbrev pub joined_counted : ℕ → Place → List Label → Run State (Unit {0})
  joined_counted left at [] = same_counted left at
  joined_counted left at (x ∷ xs) = join_counted left at >> joined_counted (left - 1) at xs

  -- whether the key is one of these
  abbrev pub tests_counted : ℕ → Place → List Label → Run State (Unit {0})
  tests_counted left at [] = node limits left at
  tests_counted left at (x ∷ xs) = joined_counted left at xs

-- ---- the expression

abbrev pub comparison : Label → PrimName
comparison (d.Boolean x) = p.BooleanEqual
comparison (d.Integer n) = p.Equal
comparison (d.Char n) = p.CharEqual

abbrev pub constant_of : Label → Constant
constant_of (d.Boolean x) = c.Boolean x
constant_of (d.Integer n) = c.Integer n
constant_of (d.Char n) = c.Char n

abbrev pub code_of : Label → ℤ
code_of (d.Boolean x) = pos 0
code_of (d.Integer n) = n
code_of (d.Char n) = pos n

abbrev pub labelled : Branch → Labelled
labelled b = roll-Labelled (record { labels = map code_of b.labels; body = b.body })

module _ (at : Place) where
  abbrev pub is_same : ℕ → Label → Expr
  is_same x l = expr_at at (k.Primitive (comparison l) (mention at x ∷ expr_at at (k.Constant (constant_of l)) ∷ []))

  abbrev pub is_one_of : ℕ → List Label → Expr
  is_one_of x [] = expr_at at (k.Constant (c.Boolean false))
  is_one_of x (l ∷ []) = is_same x l
  is_one_of x (l ∷ m ∷ ls) = expr_at at (k.If (is_same x l) (expr_at at (k.Constant (c.Boolean true))) (is_one_of x (m ∷ ls)))

  abbrev pub ifs_of : ℕ → List Branch → Expr → Expr
  ifs_of x [] e = e
  ifs_of x (b ∷ bs) e = expr_at at (k.If (is_one_of x b.labels) b.body (ifs_of x bs e))

  -- a let of the key to a local, and in it an if for each clause
  abbrev pub as_ifs : ℕ → Expr → List Branch → Expr → Expr
  as_ifs x key bs e = expr_at at (k.Let x key (ifs_of x bs e))

  abbrev pub as_node : CaseKind → Expr → List Branch → Expr → Expr
  as_node kind key bs e = expr_at at (k.Case kind key (map labelled bs) e)
