-- What holds of every kernel that keeps the rules.
use Rattle.std.specs.Prelude.{◌≡◌, ℕ, ◌<◌, Some, List, [], ◌∷◌, length, slice_get}
use Rattle.ps_kernel.specs.declared.expr.Expr.{Expr}
use Rattle.ps_kernel.specs.declared.expr.GroupEntry.{GroupEntry}
use Rattle.ps_kernel.specs.declared.kernel.Form.TheVariants.{Define}
use Rattle.ps_kernel.specs.declared.kernel.Kernel.{Kernel}
use Rattle.ps_prims.specs.Kinds.{AreKinds}
use Rattle.ps_kernel.specs.Lists.{Among}
use Rattle.ps_kernel.specs.Marks.{Mark, Stands, BindsEntry, Mentions, Sets, body_marks, marks}
use Rattle.ps_kernel.specs.Texts.{text, lambda_text, group_of, entry_of, lambda_in, procedure_of}
use Rattle.ps_kernel.specs.Valid.{IsValid}
use Rattle.ps_kernel.specs.Captured.{HasCaptured}
use Rattle.ps_kernel.specs.Scoped.{AreScoped}

-- What a kernel says of a number it says at one place. A lambda stands in one group or in none, a local of a letrec has one
-- entry, and a definition one lambda.
pub record HasOneAnswer (k : Kernel) : Type 0 where
  pub group : (l : ℕ) (g : List GroupEntry) → Among (Stands l g) (text k) → group_of k l ≡ g
  pub entry : (e : GroupEntry) → Among (BindsEntry e) (text k) → entry_of k e.local ≡ Some e
  pub procedure : (g : ℕ) (e : Expr) → Among (Define g e) k.forms → procedure_of k g ≡ lambda_in e

abbrev pub OneAnswer : Type 0
OneAnswer = (k : Kernel) → IsValid k → HasOneAnswer k

-- a text without what is in scope at its mentions and assignments
abbrev pub unscoped : List Mark → List Mark
unscoped [] = []
unscoped (Mentions x scope ∷ ms) = Mentions x [] ∷ unscoped ms
unscoped (Sets x scope ∷ ms) = Sets x [] ∷ unscoped ms
unscoped (m ∷ ms) = m ∷ unscoped ms

-- Where a lambda stands: its body is read to some levels, with some locals in scope, and its marks are marks of the text.
pub record HasPlace (k : Kernel) (l : ℕ) : Type 0 where
  pub stands : Among (Stands l (group_of k l)) (text k)
  -- each entry of its group is one of the letrec around it
  pub entries : (e : GroupEntry) → Among e (group_of k l) → Among (BindsEntry e) (text k)
  pub levels : ℕ
  pub scope : List ℕ
  pub reads : (m : Mark) → Among m (body_marks (marks k levels) scope (slice_get k.lambdas l)) → Among m (text k)
  -- it is the text of the lambda that is read there
  pub same : unscoped (lambda_text k l) ≡ unscoped (body_marks (marks k levels) scope (slice_get k.lambdas l))

abbrev pub LambdasHavePlaces : Type 0
LambdasHavePlaces = (k : Kernel) → IsValid k → (l : ℕ) → l < length k.lambdas → HasPlace k l

-- the kinds of records are such as the primitives of records need
abbrev pub KindsAreFilled : Type 0
KindsAreFilled = (k : Kernel) → IsValid k → AreKinds k.kinds

abbrev pub BodiesAreScoped : Type 0
BodiesAreScoped = (k : Kernel) → IsValid k → HasCaptured k → AreScoped k
