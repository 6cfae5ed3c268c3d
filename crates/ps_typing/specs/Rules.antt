-- The rules of types (this project's own, after Hindley and Milner).
--
-- A typing gives a type to each local, to what each lambda answers, and to each definition; and for each lambda the types of all
-- expressions of its body, in order of the text. Read `typed` as the rules, a row for each kind of expression: which type it has,
-- and which types the expressions in it have, where that is known of its parts. `types` then puts the type of each expression in
-- front of those of its parts. A letrec lists the types of its lambdas too. Which types a mention of a definition may have is an
-- argument of the rules; so is what stands in the text to which the expression belongs, since a local or a lambda of another text
-- has no type there.
use Rattle.std.specs.Prelude.{◌≡◌, ℕ, suc, ◌+◌, length, Bool, true, List, [], ◌∷◌, ◌++◌, map, Some, slice_get}
use Rattle.ps_base.specs.declared.language.PrimName.{PrimName}
use Rattle.byte_store.specs.declared.pointer.Value.{Value}
use Rattle.ps_types.specs.declared.types.Ty.{Ty}
use Rattle.ps_types.specs.declared.types.Ty.TheVariants as ty
use Rattle.ps_types.specs.declared.types.RecordKind.{RecordKind}
use Rattle.ps_types.specs.Substitutions.{IsInstance, total}
use Rattle.ps_prims.specs.Schemes.{scheme}
use Rattle.ps_kernel.specs.declared.expr.CaseKind.{CaseKind}
use Rattle.ps_kernel.specs.declared.expr.CaseKind.TheVariants as cases
use Rattle.ps_kernel.specs.declared.expr.Constant.{Constant}
use Rattle.ps_kernel.specs.declared.expr.Constant.TheVariants as constants
use Rattle.ps_kernel.specs.declared.expr.GroupEntry.{GroupEntry}
use Rattle.ps_kernel.specs.declared.expr.Expr.{Expr, rec-Expr, fold-Expr}
use Rattle.ps_kernel.specs.declared.expr.ExprKind.{ExprKind}
use Rattle.ps_kernel.specs.declared.expr.ExprKind.TheOpen.{ExprKind-F, Expr-F, Labelled-F}
use Rattle.ps_kernel.specs.declared.expr.Labelled.{Labelled}
use Rattle.ps_kernel.specs.declared.kernel.Kernel.{Kernel}
use Rattle.ps_kernel.specs.declared.kernel.Lambda.{Lambda}
use Rattle.ps_kernel.specs.declared.survivors.NumberedBlock.{NumberedBlock}
use Rattle.ps_kernel.specs.Lists.{Each}
use Rattle.ps_meaning.specs.Eval.{literal}
use Rattle.ps_survive.specs.Kept.{kept_value}
use Rattle.ps_typing.specs.Data.{IsData}

pub record Typing : Type 0 where
  pub local : ℕ → Ty
  pub result : ℕ → Ty
  pub definition : ℕ → Ty
  -- the types of the expressions of a lambda's body, in order of the text
  pub nodes : ℕ → List Ty

-- the text of some definitions: which they are, the locals that are bound there, and the lambdas that stand there
pub record Text : Type 0 where
  pub definitions : ℕ → Bool
  pub locals : ℕ → Bool
  pub lambdas : ℕ → Bool

-- ---- lists of types

-- a type, and the types of the expressions there
abbrev pub Rule : Type 1
Rule = Ty → List Ty → Type 0

-- one part of a text behind another
abbrev pub joined : (List Ty → Type 0) → (List Ty → Type 0) → List Ty → Type 0
joined P Q is = (i : List Ty) × (j : List Ty) × P i × Q j × (is ≡ i ++ j)

-- a type stands in front
abbrev pub noted : Ty → (List Ty → Type 0) → List Ty → Type 0
noted u P is = (j : List Ty) × P j × (is ≡ u ∷ j)

-- parts have these types, in order
abbrev pub each_typed : {X : Type 0} → (X → Rule) → List X → List Ty → List Ty → Type 0
each_typed h [] [] is = is ≡ []
each_typed h [] (t ∷ ts) is = ⊥
each_typed h (e ∷ es) [] is = ⊥
each_typed h (e ∷ es) (t ∷ ts) is = joined (h e t) (each_typed h es ts) is

-- all parts have this type
abbrev pub all_typed : {X : Type 0} → (X → Rule) → List X → Rule
all_typed h [] u is = is ≡ []
all_typed h (e ∷ es) u is = joined (h e u) (all_typed h es u) is

-- the last part has this type, and the others have any
abbrev pub sequence_typed : {X : Type 0} → (X → Rule) → List X → Rule
sequence_typed h [] u is = ⊥
sequence_typed h (e ∷ []) u is = h e u is
sequence_typed h (e ∷ f ∷ es) u is = (t : Ty) × joined (h e t) (sequence_typed h (f ∷ es) u) is

-- ---- what the rules speak of

pub record IsLocal (text : Text) (T : Typing) (x : ℕ) (u : Ty) : Type 0 where
  pub bound : text.locals x ≡ true
  pub type : u ≡ T.local x

-- a lambda takes the types of its parameters to that of its body
pub record IsLambda (k : Kernel) (text : Text) (T : Typing) (l : ℕ) (u : Ty) : Type 0 where
  pub lambda : Lambda
  pub there : slice_get k.lambdas l ≡ Some lambda
  pub stands : text.lambdas l ≡ true
  pub bound : Each (λ x. text.locals x ≡ true) lambda.parameters
  pub type : u ≡ ty.Proc (map T.local lambda.parameters) (T.result l)

pub record IsLiteral (k : Kernel) (blocks : List NumberedBlock) (q : ℕ) (u : Ty) : Type 0 where
  pub value : Value
  pub there : literal k q ≡ Some value
  pub has : IsData k.kinds blocks (kept_value value) u

abbrev pub constant_has : Kernel → List NumberedBlock → Constant → Ty → Type 0
constant_has k blocks (constants.Integer i) u = u ≡ ty.Integer
constant_has k blocks (constants.Boolean b) u = u ≡ ty.Boolean
constant_has k blocks (constants.Char c) u = u ≡ ty.Char
constant_has k blocks constants.Unit u = u ≡ ty.Unit
constant_has k blocks constants.NullAddress u = u ≡ ty.Address
constant_has k blocks (constants.Quoted q) u = IsLiteral k blocks q u

-- the type of the key of a case
abbrev pub key_type : CaseKind → Ty
key_type cases.Integer = ty.Integer
key_type cases.Char = ty.Char

-- the operands and the answer of a primitive have types that are an instance of its scheme
abbrev pub IsOperation : List RecordKind → PrimName → List Ty → Ty → Type 0
IsOperation kinds p ts u = IsInstance (scheme kinds p).body (ty.Proc ts u)

-- ---- the rules

module _ (k : Kernel) (blocks : List NumberedBlock) (text : Text) (T : Typing) (mentions : ℕ → Ty → Type 0) where
  -- each local of a letrec has the type of its lambda, which is listed
  abbrev pub group_typed : List GroupEntry → List Ty → Type 0
  group_typed [] is = is ≡ []
  group_typed (e ∷ es) is = IsLocal text T e.local (T.local e.local) × IsLambda k text T e.lambda (T.local e.local)
      × noted (T.local e.local) (group_typed es) is

  abbrev pub typed : (X Y Z : Type 0) → (X → ExprKind) → (Y → Expr) → (Z → Labelled) → (X → Rule) → (Y → Rule) → (Z → Rule)
      → ExprKind-F X Y Z → Rule
  typed X Y Z v w b i h g (ExprKind-F.Constant c) u is = constant_has k blocks c u × (is ≡ [])
  typed X Y Z v w b i h g (ExprKind-F.Local x) u is = IsLocal text T x u × (is ≡ [])
  typed X Y Z v w b i h g (ExprKind-F.Global d) u is = mentions d u × (is ≡ [])
  typed X Y Z v w b i h g (ExprKind-F.Lambda l) u is = IsLambda k text T l u × (is ≡ [])
  typed X Y Z v w b i h g (ExprKind-F.If p q r) u is = joined (h p ty.Boolean) (joined (h q u) (h r u)) is
  typed X Y Z v w b i h g (ExprKind-F.Let x p q) u is = IsLocal text T x (T.local x) × joined (h p (T.local x)) (h q u) is
  typed X Y Z v w b i h g (ExprKind-F.Letrec es q) u is = joined (group_typed es) (h q u) is
  typed X Y Z v w b i h g (ExprKind-F.Begin es) u is = sequence_typed h es u is
  typed X Y Z v w b i h g (ExprKind-F.SetGlobal d p) u is = (u ≡ ty.Unit) × ((t : Ty) × mentions d t × h p t is)
  typed X Y Z v w b i h g (ExprKind-F.SetLocal x p) u is = (u ≡ ty.Unit) × IsLocal text T x (T.local x) × h p (T.local x) is
  typed X Y Z v w b i h g (ExprKind-F.Case kind p bs q) u is = joined (h p (key_type kind)) (joined (all_typed g bs u) (h q u)) is
  typed X Y Z v w b i h g (ExprKind-F.Call f es) u is = (ts : List Ty) × joined (h f (ty.Proc ts u)) (each_typed h es ts) is
  typed X Y Z v w b i h g (ExprKind-F.ProperCall f es) u is = (ts : List Ty) × joined (h f (ty.Proc ts u)) (each_typed h es ts) is
  typed X Y Z v w b i h g (ExprKind-F.Primitive p es) u is = (ts : List Ty) × IsOperation k.kinds p ts u × each_typed h es ts is

  abbrev pub typed_expr : (X Y Z : Type 0) → (X → ExprKind) → (Y → Expr) → (Z → Labelled) → (X → Rule) → (Y → Rule) → (Z → Rule)
      → Expr-F X Y Z → Rule
  typed_expr X Y Z v w b i h g e u is = noted u (i e.kind u) is

  -- a branch has the type of its expression
  abbrev pub typed_branch : (X Y Z : Type 0) → (X → ExprKind) → (Y → Expr) → (Z → Labelled) → (X → Rule) → (Y → Rule) → (Z
      → Rule) → Labelled-F X Y Z → Rule
  typed_branch X Y Z v w b i h g e u is = h e.body u is

  abbrev pub types : Expr → Rule
  types = rec-Expr Rule Rule Rule typed typed_expr typed_branch

-- an expression has a type, and so do the expressions in it
pub record Types (k : Kernel) (blocks : List NumberedBlock) (text : Text) (T : Typing) (mentions : ℕ → Ty → Type 0)
    (e : Expr) (u : Ty) (is : List Ty) : Type 0 where
  pub typing : types k blocks text T mentions e u is

-- ---- how many types the rules list

abbrev pub listed_node : ExprKind-F ℕ ℕ ℕ → ℕ
listed_node (ExprKind-F.Constant c) = 0
listed_node (ExprKind-F.Local x) = 0
listed_node (ExprKind-F.Global d) = 0
listed_node (ExprKind-F.Lambda l) = 0
listed_node (ExprKind-F.If p q r) = p + (q + r)
listed_node (ExprKind-F.Let x p q) = p + q
listed_node (ExprKind-F.Letrec es q) = length es + q
listed_node (ExprKind-F.Begin es) = total es
listed_node (ExprKind-F.SetGlobal d p) = p
listed_node (ExprKind-F.SetLocal x p) = p
listed_node (ExprKind-F.Case kind p bs q) = p + (total bs + q)
listed_node (ExprKind-F.Call f es) = f + total es
listed_node (ExprKind-F.ProperCall f es) = f + total es
listed_node (ExprKind-F.Primitive p es) = total es

-- one for the expression and for each expression in it, and one for each lambda of a letrec
abbrev pub listed : Expr → ℕ
listed = fold-Expr ℕ ℕ ℕ listed_node (λ e. suc e.kind) (λ b. b.body)
