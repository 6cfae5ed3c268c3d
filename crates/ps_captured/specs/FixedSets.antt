-- The first assignment in the text of a form to a local that no assignment may name (R5RS 4.1.6 for assignments; which locals these
-- are is this project's own).
--
-- Read `fixed_set` as: the place of the first assignment, in order of the text, whose local is fixed in that text. A local is fixed
-- where a letrec of the text binds it, or where a lambda that stands in the text names it and binds it nowhere, so that its procedure
-- keeps it. The text is read by its marks (`Marks`); an assignment has the place of the expression whose mark stands before it.
use Rattle.std.specs.Prelude.{ℕ, Bool, not, false, ◌&&◌, ◌||◌, if◌then◌else◌, List, [], ◌∷◌, Option, Some, None}
use Rattle.std.specs.List.{list_any}
use Rattle.ps_base.specs.declared.faults.Place.{Place}
use Rattle.ps_kernel.specs.declared.expr.Expr.{Expr, out-Expr}
use Rattle.ps_kernel.specs.declared.kernel.Kernel.{Kernel}
use Rattle.ps_kernel.specs.declared.kernel.Lambda.{Lambda}
use Rattle.ps_kernel.specs.Lists.{stands_in}
use Rattle.ps_kernel.specs.Marks.{Mark, Node, Sets, Whole, marks}
use Rattle.ps_kernel.specs.Most.{most_depth}
use Rattle.ps_kernel.specs.Texts.{named, bound, entries, standing, lambda_text}

-- some lambdas by themselves: a kernel without definitions and forms
abbrev pub of_lambdas : List Lambda → Kernel
of_lambdas ms = record { definitions = []; lambdas = ms; literals = []; kinds = []; forms = []; main = 0 }

module _ (ms : List Lambda) where
  -- the text of a form's expression, where these are the lambdas
  abbrev pub text_of : Expr → List Mark
  text_of e = marks (of_lambdas ms) most_depth false [] (Whole e)

  -- a local is free in a lambda: its text names the local and binds it nowhere
  abbrev pub is_free : ℕ → ℕ → Bool
  is_free x l = stands_in x (named (lambda_text (of_lambdas ms) l)) && not (stands_in x (bound (lambda_text (of_lambdas ms) l)))

  -- a letrec of a text binds a local, or a lambda of the text keeps it
  abbrev pub is_fixed : List Mark → ℕ → Bool
  is_fixed text x = stands_in x (entries text) || list_any (is_free x) (standing text)

-- the first assignment of a local of which something is true, behind an expression at a place
abbrev pub first_set : (ℕ → Bool) → Place → List Mark → Option Place
first_set holds at [] = None
first_set holds at (Node here ∷ text) = first_set holds here text
first_set holds at (Sets x scope ∷ text) = if holds x then Some at else first_set holds at text
first_set holds at (m ∷ text) = first_set holds at text

module _ (ms : List Lambda) where
  -- the first assignment of a local that is fixed, in the text of a form's expression
  abbrev pub fixed_set : Expr → Option Place
  fixed_set e = first_set (is_fixed ms (text_of ms e)) (out-Expr e).place (text_of ms e)
