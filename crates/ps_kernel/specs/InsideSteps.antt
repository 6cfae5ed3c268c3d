-- The steps of a walk over a text, of which the functions of the walk speak. They are the marks of the text, without places,
-- groups and what is in scope, and each local is closed behind its region. That a walk finds what is in scope is proved of
-- them.
use Rattle.std.specs.Prelude.{ℕ, ℤ, zero, suc, Bool, true, false, ◌&&◌, ◌==◌, if◌then◌else◌, List, [], ◌∷◌, ◌++◌, length, map}
use Rattle.std.specs.Prelude.{Option, Some, None, slice_get}
use Rattle.std.specs.List.{flat_map}
use Rattle.ps_base.specs.declared.faults.Place.{Place}
use Rattle.ps_kernel.specs.declared.expr.Constant.{Constant}
use Rattle.ps_kernel.specs.declared.expr.GroupEntry.{GroupEntry}
use Rattle.ps_kernel.specs.declared.expr.Expr.{Expr, out-Expr}
use Rattle.ps_kernel.specs.declared.expr.ExprKind.{ExprKind, out-ExprKind}
use Rattle.ps_kernel.specs.declared.expr.ExprKind.TheOpen.{ExprKind-F}
use Rattle.ps_kernel.specs.declared.expr.Labelled.{Labelled}
use Rattle.ps_kernel.specs.declared.kernel.Form.{Form}
use Rattle.ps_kernel.specs.declared.kernel.Kernel.{Kernel}
use Rattle.ps_kernel.specs.declared.kernel.Lambda.{Lambda}
use Rattle.ps_kernel.specs.Marks.{Mark, Node, TooDeep, Stands, BindsParameter, BindsLet, BindsEntry, Mentions, Sets, Reads, Assigns, Sequence}
use Rattle.ps_kernel.specs.Marks.{Replaces, Performs, Chooses, labels_of, body_of, constant_marks}
use Rattle.ps_kernel.specs.Lists.{stands_in}
use Rattle.ps_kernel.specs.Texts.{expr_of}

-- where every mark of a step stands
abbrev pub nowhere : Place
nowhere = record { file = 0; line = 0; column = 0 }

-- what is walked over: an expression, or what a case unfolds to
pub data Part : Type 0 where
  Entire : Expr → Part
  Branch : Labelled → List Labelled → Expr → Part
  SomeLabel : List ℤ → Part
  OneLabel : Part
  Leaf : Part

abbrev pub branch_of : List Labelled → Expr → Part
branch_of [] e = Entire e
branch_of (b ∷ bs) e = Branch b bs e

abbrev pub label_of : List ℤ → Part
label_of [] = Leaf
label_of (l ∷ []) = OneLabel
label_of (l ∷ m ∷ ls) = SomeLabel (m ∷ ls)

pub data Step : Type 0 where
  Passes : Mark → Step
  Closes : ℕ → Step

abbrev pub opens : ℕ → Step
opens x = Passes (BindsLet x)

abbrev pub opens_parameter : ℕ → Step
opens_parameter x = Passes (BindsParameter x)

abbrev pub opens_entry : GroupEntry → Step
opens_entry e = Passes (BindsEntry e)

abbrev pub closes_entry : GroupEntry → Step
closes_entry e = Closes e.local

abbrev pub Walking : Type 0
Walking = Bool → Part → List Step

abbrev pub constant_steps : Constant → List Step
constant_steps c = map Passes (constant_marks nowhere c)

abbrev pub sequence_steps : Walking → Bool → List Expr → List Step
sequence_steps inner tail [] = []
sequence_steps inner tail (e ∷ []) = inner tail (Entire e)
sequence_steps inner tail (e ∷ f ∷ es) = inner false (Entire e) ++ sequence_steps inner tail (f ∷ es)

abbrev pub part_steps : Walking → List Expr → List Step
part_steps inner es = flat_map (λ e. inner false (Entire e)) es

abbrev pub if_steps : Walking → Bool → Expr → Expr → Expr → List Step
if_steps inner tail a b c = inner false (Entire a) ++ (inner tail (Entire b) ++ inner tail (Entire c))

abbrev pub let_steps : Walking → Bool → ℕ → Expr → Expr → List Step
let_steps inner tail x a b = inner false (Entire a) ++ (Passes (BindsLet x) ∷ (inner tail (Entire b) ++ Closes x ∷ []))

abbrev pub case_steps : Walking → Bool → Expr → List Labelled → Expr → List Step
case_steps inner tail a bs e = inner false (Entire a) ++ inner tail (branch_of bs e)

abbrev pub call_steps : Walking → Expr → List Expr → List Step
call_steps inner f es = inner false (Entire f) ++ part_steps inner es

abbrev pub body_steps : Walking → Option Lambda → List Step
body_steps inner None = []
body_steps inner (Some m) = map opens_parameter m.parameters ++ (inner true (Entire m.body) ++ map Closes m.parameters)

module _ (k : Kernel) where
  abbrev pub lambda_steps : Walking → ℕ → List Step
  lambda_steps inner l = Passes (Stands l []) ∷ body_steps inner (slice_get k.lambdas l)

  abbrev pub group_steps : Walking → List GroupEntry → List Step
  group_steps inner g = flat_map (λ (e : GroupEntry). lambda_steps inner e.lambda) g

  abbrev pub letrec_steps : Walking → Bool → List GroupEntry → Expr → List Step
  letrec_steps inner tail g b = map opens_entry g ++ (group_steps inner g ++ (inner tail (Entire b) ++ map closes_entry g))

  abbrev pub layer_steps : Walking → Bool → ExprKind-F ExprKind Expr Labelled → List Step
  layer_steps inner tail (ExprKind-F.Constant c) = constant_steps c
  layer_steps inner tail (ExprKind-F.Local x) = Passes (Mentions x []) ∷ []
  layer_steps inner tail (ExprKind-F.Global g) = Passes (Reads nowhere g) ∷ []
  layer_steps inner tail (ExprKind-F.Lambda l) = lambda_steps inner l
  layer_steps inner tail (ExprKind-F.If a b c) = if_steps inner tail a b c
  layer_steps inner tail (ExprKind-F.Let x a b) = let_steps inner tail x a b
  layer_steps inner tail (ExprKind-F.Letrec g b) = letrec_steps inner tail g b
  layer_steps inner tail (ExprKind-F.Begin es) = Passes (Sequence (length es)) ∷ sequence_steps inner tail es
  layer_steps inner tail (ExprKind-F.SetGlobal g a) = Passes (Assigns nowhere g) ∷ inner false (Entire a)
  layer_steps inner tail (ExprKind-F.SetLocal x a) = Passes (Sets x []) ∷ inner false (Entire a)
  layer_steps inner tail (ExprKind-F.Case kind a bs e) = Passes (Chooses kind bs) ∷ case_steps inner tail a bs e
  layer_steps inner tail (ExprKind-F.Call f es) = call_steps inner f es
  layer_steps inner tail (ExprKind-F.ProperCall f es) = Passes (Replaces tail) ∷ call_steps inner f es
  layer_steps inner tail (ExprKind-F.Primitive p es) = Passes (Performs nowhere p (length es)) ∷ part_steps inner es

  abbrev pub walked : Walking → Bool → Part → List Step
  walked inner tail (Entire e) = layer_steps inner tail (out-ExprKind (out-Expr e).kind)
  walked inner tail (Branch b bs e) =
      inner false (label_of (labels_of b)) ++ (inner tail (Entire (body_of b)) ++ inner tail (branch_of bs e))
  walked inner tail (SomeLabel ls) = inner false OneLabel ++ (inner tail Leaf ++ inner tail (label_of ls))
  walked inner tail OneLabel = inner false Leaf ++ inner false Leaf
  walked inner tail Leaf = []

  -- the steps of a part, walked to so many levels
  unfoldable pub steps : ℕ → Bool → Part → List Step
  steps zero tail p = Passes TooDeep ∷ []
  steps (suc n) tail p = Passes (Node nowhere) ∷ walked (steps n) tail p

  -- those of an expression whose parts are walked to so many levels
  unfoldable pub kind_steps : ℕ → Bool → ExprKind → List Step
  kind_steps n tail x = layer_steps (steps n) tail (out-ExprKind x)

  -- those of forms
  abbrev pub form_steps : ℕ → List Form → List Step
  form_steps n fs = flat_map (λ f. steps n false (Entire (expr_of f))) fs

-- the marks that steps pass
abbrev pub passed : List Step → List Mark
passed [] = []
passed (Passes m ∷ ss) = m ∷ passed ss
passed (Closes x ∷ ss) = passed ss

abbrev pub without : ℕ → List ℕ → List ℕ
without x [] = []
without x (y ∷ ys) = if x == y then without x ys else y ∷ without x ys

-- each local is mentioned between the steps that open and close it
abbrev pub is_scoped : List ℕ → List Step → Bool
is_scoped scope [] = true
is_scoped scope (Closes x ∷ ss) = is_scoped (without x scope) ss
is_scoped scope (Passes (BindsParameter x) ∷ ss) = is_scoped (x ∷ scope) ss
is_scoped scope (Passes (BindsLet x) ∷ ss) = is_scoped (x ∷ scope) ss
is_scoped scope (Passes (BindsEntry e) ∷ ss) = is_scoped (e.local ∷ scope) ss
is_scoped scope (Passes (Mentions x none) ∷ ss) = stands_in x scope && is_scoped scope ss
is_scoped scope (Passes (Sets x none) ∷ ss) = stands_in x scope && is_scoped scope ss
is_scoped scope (Passes m ∷ ss) = is_scoped scope ss
