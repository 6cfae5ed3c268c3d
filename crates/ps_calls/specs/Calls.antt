-- Calls and primitives (R5RS 4.1.3, 6). Each makes its node before its parts; none of its parts but a body stands in tail position.
use Rattle.std.specs.Prelude.{ℕ, zero, suc, ◌-◌, ◌==◌, List, [], ◌∷◌, length, pos, if◌then◌else◌}
use Rattle.ps_base.specs.declared.faults.FormKind.TheVariants.{Arity, BadForm}
use Rattle.ps_base.specs.declared.faults.Place.{Place}
use Rattle.ps_base.specs.declared.language.PrimName.{PrimName}
use Rattle.ps_base.specs.declared.language.PrimName.TheVariants as p
use Rattle.ps_expansion.specs.Levels.{down, operand_at}
use Rattle.ps_expansion.specs.Names.{arity}
use Rattle.ps_expansion.specs.States.{Task, State, node}
use Rattle.ps_expansion.specs.declared.level.Level.{Level}
use Rattle.ps_hygiene.specs.Runs.{Run, ◌>>◌, pure, stop}
use Rattle.ps_kernel.specs.declared.expr.Constant.TheVariants as c
use Rattle.ps_pattern.specs.declared.syntax.Syntax.{Syntax}
use Rattle.ps_plans.specs.Nodes.{Plan, Of, Call, ProperCall, Primitive, Sum, staged, staged_all, staged_forms, staged_sum}
use Rattle.ps_plans.specs.Parts.{Operand, Part, One, Row, Fixed, part_of}

module _ (task : Task) where
  -- ---- calls

  abbrev pub calls : Level → Place → Part → List Operand → Run State Plan
  calls l at g ps = node task.limits l.left at >> pure (Of at (Call l.tail (staged (down l) g) (staged_all (down l) ps)))

  -- `goto`: a call that replaces its procedure, in tail position alone
  abbrev pub proper_calls : Level → Place → Syntax → List Syntax → Run State Plan
  proper_calls l at f fs = node task.limits l.left at >> pure (Of at (ProperCall (staged (down l) (One f)) (staged_forms (down l) fs)))

  abbrev pub replaces : Level → Place → Syntax → List Syntax → Run State Plan
  replaces l at f fs = if l.tail then proper_calls l at f fs else stop BadForm at

  -- ---- primitives

  abbrev pub performs : Level → Place → PrimName → List Operand → Run State Plan
  performs l at q ps = node task.limits l.left at >> pure (Of at (Primitive q (staged_all (down l) ps)))

  -- a primitive with as many operands as its row has
  abbrev pub by_row : Level → Place → PrimName → List Operand → Run State Plan
  by_row l at q ps = λ s. (if length ps == arity s.kinds q then performs l at q ps else stop Arity at) s

  -- so many nodes one in another
  abbrev pub nodes_down : ℕ → ℕ → Place → Run State (Unit {0})
  nodes_down zero left at = pure tt
  nodes_down (suc n) left at = node task.limits left at >> nodes_down n (left - 1) at

  -- operands that are grouped to the left
  abbrev pub sums : Level → Place → PrimName → Operand → List Operand → Run State Plan
  sums l at q p ps = nodes_down (length ps) l.left at
      >> pure (Of at (Sum q (staged (operand_at l (length ps)) (part_of p)) (staged_sum l ps)))

  -- a single operand is taken from 0
  abbrev pub negates : Level → Place → Operand → Run State Plan
  negates l at x = node task.limits l.left at
      >> pure (Of at (Primitive p.Subtract (staged (down l) (Row (Fixed at (c.Integer (pos 0)))) ∷ staged (down l) (part_of x) ∷ [])))

  abbrev pub sum_of : Level → Place → PrimName → List Operand → Run State Plan
  sum_of l at q [] = stop Arity at
  sum_of l at q (x ∷ []) = stop Arity at
  sum_of l at q (x ∷ y ∷ ps) = sums l at q x (y ∷ ps)

  abbrev pub difference_of : Level → Place → List Operand → Run State Plan
  difference_of l at [] = stop Arity at
  difference_of l at (x ∷ []) = negates l at x
  difference_of l at (x ∷ y ∷ ps) = sums l at p.Subtract x (y ∷ ps)

  abbrev pub performed : Level → Place → PrimName → List Operand → Run State Plan
  performed l at p.Add ps = sum_of l at p.Add ps
  performed l at p.Multiply ps = sum_of l at p.Multiply ps
  performed l at p.Subtract ps = difference_of l at ps
  performed l at q ps = by_row l at q ps
