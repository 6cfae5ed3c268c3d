-- What each special form comes to, and each part that has a row of its own (R5RS 4.1, 4.2, 4.3, 5.2.2): a line a form, a line a part.
use Rattle.std.specs.Prelude.{ℕ, List, ◌∷◌}
use Rattle.ps_base.specs.declared.faults.FormKind.TheVariants.{BadForm}
use Rattle.ps_base.specs.declared.faults.Place.{Place}
use Rattle.ps_binders.specs.Binders.{lambdas, expressions_row, letrecs, values_row, named_lets, dos, round_row, again_row, commands_row, sets, let_macros, letrec_macros}
use Rattle.ps_calls.specs.Applied.{lets_row, let_forms, stars_row, let_stars}
use Rattle.ps_calls.specs.Calls.{replaces}
use Rattle.ps_conditions.specs.Conditions.{fixed, begins, sequence, ifs, ands_row, ors_row, ands, ors, arrow_row, conds_row, conds, branch_row, cases}
use Rattle.ps_datum.specs.declared.datum.Datum.{Datum}
use Rattle.ps_datum.specs.declared.datum.DatumKind.TheVariants as data_
use Rattle.ps_derived.specs.PartsOf.{PartsOf}
use Rattle.ps_derived.specs.PartsOf as d
use Rattle.ps_derived.specs.Quotation.{QuotedOf, quoted}
use Rattle.ps_derived.specs.Quotation as q
use Rattle.ps_expansion.specs.Names.{constant, literal, local}
use Rattle.ps_expansion.specs.States.{Task, State}
use Rattle.ps_expansion.specs.declared.level.Level.{Level}
use Rattle.ps_hygiene.specs.Forms.{Node as Outside}
use Rattle.ps_hygiene.specs.Runs.{Run, ◌>>=◌, pure, stop, known}
use Rattle.ps_kernel.specs.declared.expr.Constant.TheVariants as c
use Rattle.ps_kernel.specs.declared.expr.Expr.{Expr}
use Rattle.ps_pattern.specs.Conversions.{data_of}
use Rattle.ps_pattern.specs.declared.syntax.Syntax.{Syntax}
use Rattle.ps_pattern.specs.declared.syntax.SyntaxNode.{out-SyntaxNode}
use Rattle.ps_pattern.specs.declared.syntax.SyntaxNode.TheOpen as o
use Rattle.ps_plans.specs.Nodes.{Plan, Done}
use Rattle.ps_plans.specs.Parts.{Piece}
use Rattle.ps_plans.specs.Parts as p
use Rattle.ps_scope.specs.Environments.{Env}

-- the place of the first operand of a form
abbrev pub operand_place : Place → Outside → Place
operand_place at (o.List (g ∷ x ∷ fs)) = x.place
operand_place at other = at

unfoldable pub first_operand_place : Syntax → Place
first_operand_place f = operand_place f.place (out-SyntaxNode f.node)

abbrev pub text_at : Place → List ℕ → Datum
text_at at bytes = record { place = at; kind = data_.Text bytes }

abbrev pub done : Run State Expr → Run State Plan
done run = run >>= (λ e. pure (Done e))

module _ (task : Task) where
  -- ---- constants

  abbrev pub quotes : Level → Place → QuotedOf → Run State Expr
  quotes l at (q.Boolean x) = constant task.limits l at (c.Boolean x)
  quotes l at (q.Integer n) = constant task.limits l at (c.Integer n)
  quotes l at (q.Char x) = constant task.limits l at (c.Char x)
  quotes l at (q.Block x) = literal task.limits l at (data_of x)

  -- a datum as a constant or a literal
  abbrev pub quoted_form : Level → Place → Syntax → Run State Expr
  quoted_form l at x = known BadForm at (quoted x) >>= quotes l at

  -- ---- special forms

  -- the form at a place, of which the first operand stands at another
  abbrev pub special : Level → Place → Place → Env → PartsOf → Run State Plan
  special l at x_at env (d.Define x) = stop BadForm at
  special l at x_at env (d.DefineSyntax x) = stop BadForm at
  special l at x_at env (d.RecordType x) = stop BadForm at
  special l at x_at env (d.Lambda xs fs) = lambdas task l at xs fs
  special l at x_at env (d.If t a e) = ifs task l at t a e
  special l at x_at env (d.Let bs fs) = let_forms task l at bs fs
  special l at x_at env (d.NamedLet x bs fs) = named_lets task l at x bs fs
  special l at x_at env (d.LetStar bs fs) = let_stars task l at bs fs
  special l at x_at env (d.Letrec bs fs) = letrecs task l at bs fs
  special l at x_at env (d.Begin fs) = begins task l at fs
  special l at x_at env (d.Set x e) = sets task l at x_at env x e
  special l at x_at env (d.Quote x) = done (quoted_form l at x)
  special l at x_at env (d.Cond cs last) = conds task l at cs last
  special l at x_at env (d.Case key cs last) = cases task l at key cs last
  special l at x_at env (d.And fs) = ands task l at fs
  special l at x_at env (d.Or fs) = ors task l at fs
  special l at x_at env (d.Do vs t rs fs) = dos task l at vs t rs fs
  special l at x_at env (d.Goto x fs) = replaces task l at x fs
  special l at x_at env (d.LetSyntax ms fs) = let_macros task l at env ms fs
  special l at x_at env (d.LetrecSyntax ms fs) = letrec_macros task l at env ms fs

  -- ---- parts

  abbrev pub piece : Level → Env → Piece → Run State Plan
  piece l env (p.Mention at x) = done (local task.limits l at x)
  piece l env (p.Fixed at v) = fixed task l at v
  piece l env (p.Expressions at x fs) = expressions_row task l at x fs
  piece l env (p.Sequence at fs) = sequence task l at fs
  piece l env (p.Ands at fs) = ands_row task l at fs
  piece l env (p.Ors at fs) = ors_row task l at fs
  piece l env (p.Conds at cs last) = conds_row task l at cs last
  piece l env (p.Arrow at x f cs last) = arrow_row task l at x f cs last
  piece l env (p.Branch at labels fs) = branch_row task l at labels fs
  piece l env (p.Lambda at xs fs) = lambdas task l at xs fs
  piece l env (p.Lets at x) = lets_row task l at x
  piece l env (p.Stars at bs fs) = stars_row task l at bs fs
  piece l env (p.Values at bs ls fs) = values_row task l at env bs ls fs
  piece l env (p.Round at r) = round_row task l at r
  piece l env (p.Commands at fs x ps) = commands_row task l at fs x ps
  piece l env (p.Again at x ps) = again_row task l at x ps
