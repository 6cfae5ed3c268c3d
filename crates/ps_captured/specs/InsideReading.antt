-- How a text is read into a list of what it says of locals and lambdas: what the functions of the reading promise each other.
use Rattle.std.specs.Prelude.{ℕ, zero, suc, Bool, true, false, List, [], ◌∷◌, ◌++◌, map, Option, Some, None, slice_get}
use Rattle.std.specs.List.{fold}
use Rattle.ps_base.specs.declared.faults.Place.{Place}
use Rattle.ps_kernel.specs.declared.expr.GroupEntry.{GroupEntry}
use Rattle.ps_kernel.specs.declared.expr.Expr.{Expr, out-Expr}
use Rattle.ps_kernel.specs.declared.expr.ExprKind.{ExprKind, out-ExprKind}
use Rattle.ps_kernel.specs.declared.expr.ExprKind.TheOpen.{ExprKind-F}
use Rattle.ps_kernel.specs.declared.expr.Labelled.{Labelled}
use Rattle.ps_kernel.specs.declared.kernel.Form.{Form}
use Rattle.ps_kernel.specs.declared.kernel.Lambda.{Lambda}
use Rattle.ps_kernel.specs.Marks.{Mark, Node, Stands, BindsParameter, BindsLet, BindsEntry, Mentions, Sets, body_of}
use Rattle.ps_kernel.specs.Most.{most_depth}
use Rattle.ps_kernel.specs.Texts.{expr_of}
use Rattle.ps_captured.specs.declared.seen.Seen.{Seen}
use Rattle.ps_captured.specs.declared.seen.Seen.TheVariants as s

-- what is seen in a text
pub data Sight : Type 0 where
  -- a lambda stands there, in this group or in none
  Stood : ℕ → List GroupEntry → Sight
  -- a local is bound, not by a letrec or by one
  Bound : ℕ → Sight
  Entered : ℕ → Sight
  -- a local is mentioned, or assigned by the form at a place
  Mentioned : ℕ → Sight
  Assigned : Place → ℕ → Sight

abbrev pub sight_of : Seen → Sight
sight_of (s.Stands l g) = Stood l g.now
sight_of (s.Binds x) = Bound x
sight_of (s.Enters x) = Entered x
sight_of (s.Mentions x) = Mentioned x
sight_of (s.Sets at x) = Assigned at x

abbrev pub is_assigned : Sight → Bool
is_assigned (Assigned at x) = true
is_assigned s = false

abbrev pub sights : List Seen → List Sight
sights ss = map sight_of ss

-- what a mark shows behind an expression at a place
abbrev pub shown : Place → Mark → List Sight
shown at (Stands l g) = Stood l g ∷ []
shown at (BindsParameter x) = Bound x ∷ []
shown at (BindsLet x) = Bound x ∷ []
shown at (BindsEntry e) = Entered e.local ∷ []
shown at (Mentions x scope) = Mentioned x ∷ []
shown at (Sets x scope) = Assigned at x ∷ []
shown at m = []

-- the place of the last expression behind a mark
abbrev pub next : Place → Mark → Place
next at (Node here) = here
next at m = at

-- what is seen in marks behind an expression at a place
abbrev pub seen_in : Place → List Mark → List Sight
seen_in at [] = []
seen_in at (m ∷ ms) = shown at m ++ seen_in (next at m) ms

-- ---- what sights say

abbrev pub bound_there : List Sight → List ℕ
bound_there [] = []
bound_there (Bound x ∷ ss) = x ∷ bound_there ss
bound_there (Entered x ∷ ss) = x ∷ bound_there ss
bound_there (s ∷ ss) = bound_there ss

abbrev pub entered_there : List Sight → List ℕ
entered_there [] = []
entered_there (Entered x ∷ ss) = x ∷ entered_there ss
entered_there (s ∷ ss) = entered_there ss

abbrev pub named_there : List Sight → List ℕ
named_there [] = []
named_there (Mentioned x ∷ ss) = x ∷ named_there ss
named_there (Assigned at x ∷ ss) = x ∷ named_there ss
named_there (s ∷ ss) = named_there ss

abbrev pub stood_there : List Sight → List ℕ
stood_there [] = []
stood_there (Stood l g ∷ ss) = l ∷ stood_there ss
stood_there (s ∷ ss) = stood_there ss

-- ---- the reading

-- what is read: an expression, or the branches of a case
pub data Part : Type 0 where
  Entire : Expr → Part
  Branch : Labelled → List Labelled → Expr → Part

abbrev pub branch_of : List Labelled → Expr → Part
branch_of [] e = Entire e
branch_of (b ∷ bs) e = Branch b bs e

-- what was seen, and what a part adds to it
abbrev pub Reading : Type 0
Reading = List Sight → Part → List Sight

abbrev pub put : List Sight → Sight → List Sight
put ss x = ss ++ x ∷ []

abbrev pub put_bound : List Sight → ℕ → List Sight
put_bound ss x = put ss (Bound x)

abbrev pub put_entry : List Sight → GroupEntry → List Sight
put_entry ss e = put ss (Entered e.local)

abbrev pub read_parts : Reading → List Sight → List Expr → List Sight
read_parts inner ss es = fold (λ ss e. inner ss (Entire e)) ss es

abbrev pub read_body : Reading → List Sight → Option Lambda → List Sight
read_body inner ss None = ss
read_body inner ss (Some m) = inner (fold put_bound ss m.parameters) (Entire m.body)

abbrev pub read_if : Reading → List Sight → Expr → Expr → Expr → List Sight
read_if inner ss a b c = inner (inner (inner ss (Entire a)) (Entire b)) (Entire c)

abbrev pub read_let : Reading → List Sight → ℕ → Expr → Expr → List Sight
read_let inner ss x a b = inner (put (inner ss (Entire a)) (Bound x)) (Entire b)

abbrev pub read_case : Reading → List Sight → Expr → List Labelled → Expr → List Sight
read_case inner ss a bs e = inner (inner ss (Entire a)) (branch_of bs e)

abbrev pub read_call : Reading → List Sight → Expr → List Expr → List Sight
read_call inner ss f es = read_parts inner (inner ss (Entire f)) es

module _ (ms : List Lambda) where
  abbrev pub read_lambda : Reading → List Sight → List GroupEntry → ℕ → List Sight
  read_lambda inner ss g l = read_body inner (put ss (Stood l g)) (slice_get ms l)

  -- some entries of a group
  abbrev pub read_group : Reading → List Sight → List GroupEntry → List GroupEntry → List Sight
  read_group inner ss g es = fold (λ ss (e : GroupEntry). read_lambda inner ss g e.lambda) ss es

  abbrev pub read_letrec : Reading → List Sight → List GroupEntry → Expr → List Sight
  read_letrec inner ss g b = inner (read_group inner (fold put_entry ss g) g g) (Entire b)

  abbrev pub read_layer : Reading → List Sight → Place → ExprKind-F ExprKind Expr Labelled → List Sight
  read_layer inner ss at (ExprKind-F.Constant c) = ss
  read_layer inner ss at (ExprKind-F.Local x) = put ss (Mentioned x)
  read_layer inner ss at (ExprKind-F.Global g) = ss
  read_layer inner ss at (ExprKind-F.Lambda l) = read_lambda inner ss [] l
  read_layer inner ss at (ExprKind-F.If a b c) = read_if inner ss a b c
  read_layer inner ss at (ExprKind-F.Let x a b) = read_let inner ss x a b
  read_layer inner ss at (ExprKind-F.Letrec g b) = read_letrec inner ss g b
  read_layer inner ss at (ExprKind-F.Begin es) = read_parts inner ss es
  read_layer inner ss at (ExprKind-F.SetGlobal g a) = inner ss (Entire a)
  read_layer inner ss at (ExprKind-F.SetLocal x a) = inner (put ss (Assigned at x)) (Entire a)
  read_layer inner ss at (ExprKind-F.Case q a bs e) = read_case inner ss a bs e
  read_layer inner ss at (ExprKind-F.Call f es) = read_call inner ss f es
  read_layer inner ss at (ExprKind-F.ProperCall f es) = read_call inner ss f es
  read_layer inner ss at (ExprKind-F.Primitive p es) = read_parts inner ss es

  abbrev pub read_part : Reading → List Sight → Part → List Sight
  read_part inner ss (Entire e) = read_layer inner ss (out-Expr e).place (out-ExprKind (out-Expr e).kind)
  read_part inner ss (Branch b bs e) = inner (inner ss (Entire (body_of b))) (branch_of bs e)

  -- a part, read to so many levels
  unfoldable pub read : ℕ → Reading
  read zero ss p = ss
  read (suc n) ss p = read_part (read n) ss p

  -- what an expression is, whose parts are read to so many levels
  unfoldable pub read_kind : ℕ → List Sight → Place → ExprKind → List Sight
  read_kind n ss at x = read_layer (read n) ss at (out-ExprKind x)

  abbrev pub read_forms : ℕ → List Sight → List Form → List Sight
  read_forms n ss fs = fold (λ ss f. read n ss (Entire (expr_of f))) ss fs

  -- what is seen in the text of a form, and in that of a lambda
  abbrev pub sights_of_form : Expr → List Sight
  sights_of_form e = read most_depth [] (Entire e)

  abbrev pub sights_of : ℕ → List Sight
  sights_of l = read_body (read most_depth) [] (slice_get ms l)
