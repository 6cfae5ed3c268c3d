-- What stands for itself, names, and primitives (R5RS 4.1.1, 4.1.2, 4.1.3).
use Rattle.std.specs.Prelude.{ℕ, Bool, true, false, nat_le, List, [], ◌∷◌, ◌++◌, length, if◌then◌else◌}
use Rattle.ps_base.specs.declared.faults.FormKind.TheVariants.{BadForm, Unbound, TooDeep}
use Rattle.ps_base.specs.declared.faults.Place.{Place}
use Rattle.ps_base.specs.declared.language.PrimName.{PrimName}
use Rattle.ps_base.specs.declared.language.PrimName.TheVariants as p
use Rattle.ps_base.specs.declared.limits.Limits.{Limits}
use Rattle.ps_datum.specs.declared.datum.Datum.{Datum}
use Rattle.ps_kernel.specs.Texts.{expr_at}
use Rattle.ps_kernel.specs.Valid.{datum_depth}
use Rattle.ps_kernel.specs.declared.expr.Constant.{Constant}
use Rattle.ps_kernel.specs.declared.expr.Constant.TheVariants as c
use Rattle.ps_kernel.specs.declared.expr.Expr.{Expr}
use Rattle.ps_kernel.specs.declared.expr.ExprKind.TheVariants as k
use Rattle.ps_pattern.specs.declared.binding.Binding.{Binding}
use Rattle.ps_pattern.specs.declared.binding.Binding.TheVariants as b
use Rattle.ps_prims.specs.Rows.{row}
use Rattle.ps_prims.specs.Sorts.{first_order}
use Rattle.ps_types.specs.declared.types.RecordKind.{RecordKind}
use Rattle.ps_hygiene.specs.Runs.{Goes, Run, ◌>>=◌, ◌>>◌, pure, stop}
use Rattle.ps_expansion.specs.declared.level.Level.{Level}
use Rattle.ps_expansion.specs.Levels.{down}
use Rattle.ps_expansion.specs.States.{State, node, next_locals, next_lambda, finished, next_literal}

-- how many operands a primitive takes
abbrev pub arity : List RecordKind → PrimName → ℕ
arity kinds q = length (row first_order kinds q).operands

-- the null address is a value by itself
abbrev pub is_null_address : PrimName → Bool
is_null_address p.NullAddress = true
is_null_address q = false

abbrev pub mention : Place → ℕ → Expr
mention at x = expr_at at (k.Local x)

module _ (limits : Limits) where
  abbrev pub constant : Level → Place → Constant → Run State Expr
  constant l at value = node limits l.left at >> pure (expr_at at (k.Constant value))

  -- a quoted string or vector is a literal, once its node is made
  abbrev pub literal : Level → Place → Datum → Run State Expr
  literal l at d = do
    node limits l.left at
    nested at d
    q ← next_literal d
    pure (expr_at at (k.Constant (c.Quoted q)))
    where
      nested : Place → Datum → Run State (Unit {0})
      nested at d = λ s. if nat_le (datum_depth d) limits.depth then Goes tt s else stop TooDeep at s

  abbrev pub local : Level → Place → ℕ → Run State Expr
  local l at x = node limits l.left at >> pure (mention at x)

  -- mentions of locals, each of them a node
  abbrev pub mentions : Level → Place → List ℕ → List Expr → Run State (List Expr)
  mentions l at [] made = pure made
  mentions l at (x ∷ xs) made = local l at x >>= (λ e. mentions l at xs (made ++ e ∷ []))

  -- The lambda of a primitive has as many parameters as its row; its body performs the primitive on them.
  abbrev pub primitive_body : Level → ℕ → Place → PrimName → List ℕ → Run State (Unit {0})
  primitive_body l n at q xs = do
    node limits l.left at
    es ← mentions (down l) at xs []
    finished n (record { place = at; parameters = xs; captured = []; body = expr_at at (k.Primitive q es) })

  abbrev pub primitive_inside : Level → ℕ → Place → PrimName → Run State (Unit {0})
  primitive_inside l n at q = λ s. (next_locals (arity s.kinds q) >>= primitive_body l n at q) s

  -- the procedure of a primitive
  abbrev pub procedure_of : Level → Place → PrimName → Run State Expr
  procedure_of l at q = do
    node limits l.left at
    n ← next_lambda at
    primitive_inside (down l) n at q
    pure (expr_at at (k.Lambda n))

  -- a primitive that is no operator
  abbrev pub primitive_value : Level → Place → PrimName → Run State Expr
  primitive_value l at q = if is_null_address q then constant l at c.NullAddress else procedure_of l at q

  -- a name in a place of use
  abbrev pub named : Level → Place → Binding → Run State Expr
  named l at (b.Local x) = local l at x
  named l at (b.Global g) = node limits l.left at >> pure (expr_at at (k.Global g))
  named l at (b.Primitive q) = primitive_value l at q
  named l at (b.Macro m) = stop BadForm at
  named l at (b.Core core) = stop BadForm at
  named l at (b.Unbound x) = stop Unbound at
