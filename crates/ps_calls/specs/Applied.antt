-- What is applied, which is decided once the operator is no macro use (R5RS 4.1.3), and lets (R5RS 4.2.2).
use Rattle.std.specs.Prelude.{◌==◌, List, [], ◌∷◌, ◌++◌, length, map, if◌then◌else◌}
use Rattle.ps_base.specs.declared.faults.FormKind.TheVariants.{Arity, BadForm}
use Rattle.ps_base.specs.declared.faults.Place.{Place}
use Rattle.ps_base.specs.declared.language.Core.TheVariants as core
use Rattle.ps_base.specs.declared.language.PrimName.TheVariants as p
use Rattle.ps_calls.specs.Calls.{calls, performed}
use Rattle.ps_derived.specs.PartsOf.{PartsOf, BindingOf}
use Rattle.ps_derived.specs.PartsOf as d
use Rattle.ps_expansion.specs.Apart.{parts_at}
use Rattle.ps_expansion.specs.Levels.{down, passed}
use Rattle.ps_expansion.specs.States.{Task, State, node, next_local}
use Rattle.ps_expansion.specs.declared.level.Level.{Level}
use Rattle.ps_hygiene.specs.Forms.{Shape, Name, Special, shape}
use Rattle.ps_hygiene.specs.Runs.{Run, ◌>>=◌, ◌>>◌, pure, stop}
use Rattle.ps_pattern.specs.declared.binding.Binding.{Binding}
use Rattle.ps_pattern.specs.declared.binding.Binding.TheVariants as b
use Rattle.ps_pattern.specs.declared.syntax.Ident.{Ident}
use Rattle.ps_pattern.specs.declared.syntax.Syntax.{Syntax}
use Rattle.ps_plans.specs.Nodes.{Plan, Same, Of, Let, Locals, Staged, staged}
use Rattle.ps_plans.specs.Parts.{Operand, LetsOf, Settled, Body, Alone, Row, One, Lets, Stars, givens, part_of}
use Rattle.ps_scope.specs.Environments.{Env}

abbrev pub names_in : List BindingOf → List Ident
names_in bs = map (λ x. x.name) bs

abbrev pub values_in : List BindingOf → List Syntax
values_in bs = map (λ x. x.value) bs

-- what sees the names
abbrev pub let_body : Level → LetsOf → Staged
let_body l x = record { level = l; scope = Locals x.names x.locals; part = Body x.place x.body }

module _ (task : Task) where
  -- ---- lets

  -- a local for a value, and the bindings behind it
  abbrev pub next_let : Level → Place → Operand → LetsOf → Run State Plan
  next_let l at v others = do
    node task.limits l.left at
    x ← next_local
    pure (Of at (Let x (staged (down l) (part_of v))
        (staged (passed l) (Row (Lets at (record others { locals = others.locals ++ x ∷ [] }))))))

  -- names whose first values have their locals: a let for each value that is left, and then the body
  abbrev pub lets_by : Level → Place → LetsOf → List Operand → Run State Plan
  lets_by l at x [] = pure (Same (let_body l x))
  lets_by l at x (v ∷ vs) = next_let l at v (record x { values = vs })

  abbrev pub lets_row : Level → Place → LetsOf → Run State Plan
  lets_row l at x = lets_by l at x x.values

  -- names for values that see none of them, and the body of the form at another place; without names the body makes the node
  abbrev pub lets : Level → Place → List Ident → List Operand → Place → List Syntax → Run State Plan
  lets l at xs [] body_at fs = pure (Same (staged l (Alone body_at fs)))
  lets l at xs (v ∷ vs) body_at fs = lets_row l at (record { names = xs; locals = []; values = v ∷ vs; place = body_at; body = fs })

  abbrev pub let_forms : Level → Place → List BindingOf → List Syntax → Run State Plan
  let_forms l at bs fs = lets l at (names_in bs) (givens (values_in bs)) at fs

  -- each value sees the names before it
  abbrev pub stars_row : Level → Place → List BindingOf → List Syntax → Run State Plan
  stars_row l at [] fs = pure (Same (staged l (Body at fs)))
  stars_row l at (v ∷ vs) fs = do
    node task.limits l.left at
    x ← next_local
    pure (Of at (Let x (staged (down l) (One v.value))
        (record { level = passed l; scope = Locals (v.name ∷ []) (x ∷ []); part = Row (Stars at vs fs) })))

  abbrev pub let_stars : Level → Place → List BindingOf → List Syntax → Run State Plan
  let_stars l at [] fs = pure (Same (staged l (Alone at fs)))
  let_stars l at (v ∷ vs) fs = stars_row l at (v ∷ vs) fs

  -- ---- what is applied

  -- a lambda that is applied where it stands is a let
  abbrev pub applied_parts : Level → Place → Place → List Operand → PartsOf → Run State Plan
  applied_parts l at g_at ps (d.Lambda xs fs) = if length ps == length xs then lets l at xs ps g_at fs else stop Arity at
  applied_parts l at g_at ps other = stop BadForm g_at

  abbrev pub applied_lambda : Level → Place → Env → Syntax → List Operand → Run State Plan
  applied_lambda l at env g ps = parts_at task env core.Lambda g >>= applied_parts l at g.place ps

  abbrev pub applied_name : Level → Place → Syntax → List Operand → Binding → Run State Plan
  applied_name l at g ps (b.Primitive p.NullAddress) = calls task l at (Settled g) ps
  applied_name l at g ps (b.Primitive q) = performed task l at q ps
  applied_name l at g ps other = calls task l at (Settled g) ps

  abbrev pub applied_by : Level → Place → Env → Syntax → List Operand → Shape → Run State Plan
  applied_by l at env g ps (Name meant) = applied_name l at g ps meant.binding
  applied_by l at env g ps (Special core.Lambda) = applied_lambda l at env g ps
  applied_by l at env g ps other = calls task l at (Settled g) ps

  -- an operator that is no macro use, and its operands
  unfoldable pub applied_form : Level → Place → Env → Syntax → List Operand → Run State Plan
  applied_form l at env g ps = λ s. applied_by l at env g ps (shape s.world env g) s
