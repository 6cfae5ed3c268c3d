-- Conditionals (R5RS 4.1.5, 4.2.1). Each makes its node before its parts, and passes tail position to its branches. A clause stands behind
-- the ones before it, so one level lower than they.
use Rattle.std.specs.Prelude.{ℕ, ◌-◌, true, false, List, [], ◌∷◌, length, Option, Some, None}
use Rattle.ps_base.specs.declared.faults.Place.{Place}
use Rattle.ps_bodies.specs.Branches.{kind_of, tests_counted}
use Rattle.ps_derived.specs.PartsOf.{ClauseOf, CaseClauseOf}
use Rattle.ps_derived.specs.PartsOf as d
use Rattle.ps_derived.specs.declared.types.Label.{Label}
use Rattle.ps_expansion.specs.Levels.{down, passed, lowered}
use Rattle.ps_expansion.specs.Names.{constant}
use Rattle.ps_expansion.specs.States.{Task, State, node, next_local}
use Rattle.ps_expansion.specs.declared.level.Level.{Level}
use Rattle.ps_hygiene.specs.Runs.{Run, ◌>>=◌, ◌>>◌, pure}
use Rattle.ps_kernel.specs.declared.expr.CaseKind.{CaseKind}
use Rattle.ps_kernel.specs.declared.expr.Constant.{Constant}
use Rattle.ps_kernel.specs.declared.expr.Constant.TheVariants as c
use Rattle.ps_pattern.specs.declared.syntax.Syntax.{Syntax}
use Rattle.ps_plans.specs.Nodes.{Plan, Done, Same, Of, Begin, If, Let, Case, Ifs, ChoiceOf, staged, staged_row}
use Rattle.ps_plans.specs.Parts.{Part, One, Applied, Row, Mention, Held, Fixed, Sequence, Ands, Ors, Conds, Arrow, Branch}

-- a form, or a unit where there is none
abbrev pub otherwise : Place → Option Syntax → Part
otherwise at None = Row (Fixed at c.Unit)
otherwise at (Some f) = One f

-- the expressions of `else`, or a unit where there is none
abbrev pub last_of : Place → Option (List Syntax) → Part
last_of at None = Row (Fixed at c.Unit)
last_of at (Some fs) = Row (Sequence at fs)

-- a clause of `case`
abbrev pub choice : Level → Place → CaseClauseOf → ChoiceOf
choice l at x = record { labels = x.labels; body = staged l (Row (Branch at x.labels x.body)) }

-- its clauses one behind another
abbrev pub choices : Level → Place → List CaseClauseOf → List ChoiceOf
choices l at [] = []
choices l at (x ∷ xs) = choice l at x ∷ choices (passed l) at xs

module _ (task : Task) where
  -- ---- sequences

  abbrev pub fixed : Level → Place → Constant → Run State Plan
  fixed l at value = constant task.limits l at value >>= (λ e. pure (Done e))

  -- forms one behind another
  abbrev pub begins : Level → Place → List Syntax → Run State Plan
  begins l at fs = node task.limits l.left at >> pure (Of at (Begin (staged_row l fs)))

  abbrev pub sequence : Level → Place → List Syntax → Run State Plan
  sequence l at [] = fixed l at c.Unit
  sequence l at (x ∷ []) = pure (Same (staged l (One x)))
  sequence l at (x ∷ y ∷ fs) = begins l at (x ∷ y ∷ fs)

  -- ---- if, and, or

  -- a test, and the branches to which tail position is passed
  abbrev pub if_of : Level → Place → Part → Part → Part → Run State Plan
  if_of l at t a f = node task.limits l.left at >> pure (Of at (If (staged (down l) t) (staged (passed l) a) (staged (passed l) f)))

  abbrev pub ifs : Level → Place → Syntax → Syntax → Option Syntax → Run State Plan
  ifs l at t a f = if_of l at (One t) (One a) (otherwise at f)

  abbrev pub and_from : Level → Place → Syntax → List Syntax → Run State Plan
  and_from l at f fs = if_of l at (One f) (Row (Ands at fs)) (Row (Fixed at (c.Boolean false)))

  abbrev pub or_from : Level → Place → Syntax → List Syntax → Run State Plan
  or_from l at f fs = if_of l at (One f) (Row (Fixed at (c.Boolean true))) (Row (Ors at fs))

  -- the other operands, of which the last is what it is
  abbrev pub ands_row : Level → Place → List Syntax → Run State Plan
  ands_row l at [] = fixed l at (c.Boolean true)
  ands_row l at (x ∷ []) = pure (Same (staged l (One x)))
  ands_row l at (x ∷ y ∷ fs) = and_from l at x (y ∷ fs)

  abbrev pub ors_row : Level → Place → List Syntax → Run State Plan
  ors_row l at [] = fixed l at (c.Boolean false)
  ors_row l at (x ∷ []) = pure (Same (staged l (One x)))
  ors_row l at (x ∷ y ∷ fs) = or_from l at x (y ∷ fs)

  -- a single operand makes the node of its form
  abbrev pub ands : Level → Place → List Syntax → Run State Plan
  ands l at [] = fixed l at (c.Boolean true)
  ands l at (x ∷ []) = begins l at (x ∷ [])
  ands l at (x ∷ y ∷ fs) = and_from l at x (y ∷ fs)

  abbrev pub ors : Level → Place → List Syntax → Run State Plan
  ors l at [] = fixed l at (c.Boolean false)
  ors l at (x ∷ []) = begins l at (x ∷ [])
  ors l at (x ∷ y ∷ fs) = or_from l at x (y ∷ fs)

  -- ---- cond

  abbrev pub cond_clause : Level → Place → ClauseOf → List ClauseOf → Option (List Syntax) → Run State Plan
  cond_clause l at (d.Alone t) cs last = if_of l at (One t) (Row (Fixed at (c.Boolean true))) (Row (Conds at cs last))
  cond_clause l at (d.Then t fs) cs last = if_of l at (One t) (Row (Sequence at fs)) (Row (Conds at cs last))
  cond_clause l at (d.Arrow t f) cs last = do
    node task.limits l.left at
    x ← next_local
    pure (Of at (Let x (staged (down l) (One t)) (staged (passed l) (Row (Arrow at x f cs last)))))

  -- the test of a clause with `=>`, and what is applied to its value
  abbrev pub arrow_row : Level → Place → ℕ → Syntax → List ClauseOf → Option (List Syntax) → Run State Plan
  arrow_row l at x f cs last = if_of l at (Row (Mention at x)) (Applied at f (Held at x ∷ [])) (Row (Conds at cs last))

  -- the other clauses
  abbrev pub conds_row : Level → Place → List ClauseOf → Option (List Syntax) → Run State Plan
  conds_row l at [] None = fixed l at c.Unit
  conds_row l at [] (Some fs) = sequence l at fs
  conds_row l at (x ∷ cs) last = cond_clause l at x cs last

  -- an `else` alone makes the node of the form
  abbrev pub conds : Level → Place → List ClauseOf → Option (List Syntax) → Run State Plan
  conds l at [] None = fixed l at c.Unit
  conds l at [] (Some fs) = begins l at fs
  conds l at (x ∷ cs) last = cond_clause l at x cs last

  -- ---- case

  -- a clause: its if, its tests and its body
  abbrev pub branch_row : Level → Place → List Label → List Syntax → Run State Plan
  branch_row l at labels fs = do
    node task.limits l.left at
    tests_counted task.limits (l.left - 1) at labels
    pure (Same (staged (passed l) (Row (Sequence at fs))))

  abbrev pub case_by : Level → Place → Syntax → List CaseClauseOf → Option (List Syntax) → Option CaseKind → Run State Plan
  case_by l at key xs last (Some kind) = pure (Of at (Case kind (staged (down l) (One key)) (choices (passed l) at xs)
      (staged (lowered (passed l) (length xs)) (last_of at last))))
  case_by l at key xs last None = next_local >>= (λ x. pure (Of at (Ifs x (staged (down l) (One key)) (choices (passed l) at xs)
      (staged (lowered (passed l) (length xs)) (last_of at last)))))

  -- a node of its own, or a local for the key and ifs
  abbrev pub cases : Level → Place → Syntax → List CaseClauseOf → Option (List Syntax) → Run State Plan
  cases l at key xs last = node task.limits l.left at >> case_by l at key xs last (kind_of xs)
