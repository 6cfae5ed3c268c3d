-- What a form or a part of it comes to before its own parts are expanded (this project's own): read `Of at n` as a node of the form at `at`,
-- which is made of parts, each with the level and the scope in which it is expanded.
use Rattle.std.specs.Prelude.{ℕ, ◌-◌, Bool, List, [], ◌∷◌, ◌++◌, length, map}
use Rattle.ps_base.specs.declared.faults.Place.{Place}
use Rattle.ps_base.specs.declared.language.PrimName.{PrimName}
use Rattle.ps_bodies.specs.Bodies.{Member}
use Rattle.ps_derived.specs.PartsOf.{MacroOf}
use Rattle.ps_derived.specs.declared.types.Label.{Label}
use Rattle.ps_expansion.specs.Levels.{down, passed, operand_at}
use Rattle.ps_expansion.specs.Macros.{bind_macros}
use Rattle.ps_expansion.specs.States.{bind_all}
use Rattle.ps_expansion.specs.declared.level.Level.{Level}
use Rattle.ps_kernel.specs.declared.expr.CaseKind.{CaseKind}
use Rattle.ps_kernel.specs.declared.expr.Expr.{Expr}
use Rattle.ps_kernel.specs.declared.expr.GroupEntry.{GroupEntry}
use Rattle.ps_pattern.specs.declared.syntax.Ident.{Ident}
use Rattle.ps_pattern.specs.declared.syntax.Syntax.{Syntax}
use Rattle.ps_plans.specs.Parts.{Operand, Part, One, part_of}
use Rattle.ps_scope.specs.Environments.{Env}

-- what a form binds for its part: nothing, names to locals, or keywords to macros in a row
pub data Scope : Type 0 where
  Here : Scope
  Locals : (names : List Ident) (locals : List ℕ) → Scope
  Keywords : (macros : List MacroOf) (first : ℕ) → Scope

abbrev pub scoped : Scope → Env → Env
scoped Here env = env
scoped (Locals xs ls) env = bind_all xs ls env
scoped (Keywords ms m) env = bind_macros ms m env

-- a part, and where it is expanded
pub record Staged : Type 0 where
  pub level : Level
  pub scope : Scope
  pub part : Part

-- the lambda of a number: its parameters, and what its body is
pub record InsideOf : Type 0 where
  pub number : ℕ
  pub place : Place
  pub parameters : List ℕ
  pub body : Staged

-- a clause of `case`
pub record ChoiceOf : Type 0 where
  pub labels : List Label
  pub body : Staged

pub data Node : Type 0 where
  Begin : (parts : List Staged) → Node
  -- a call, in tail position or not
  Call : (tail : Bool) (operator : Staged) (operands : List Staged) → Node
  ProperCall : (operator : Staged) (operands : List Staged) → Node
  Primitive : (primitive : PrimName) (operands : List Staged) → Node
  -- a primitive of two operands, over all of them from left to right
  Sum : (primitive : PrimName) (first : Staged) (more : List Staged) → Node
  If : (test yes no : Staged) → Node
  Let : (local : ℕ) (value rest : Staged) → Node
  SetLocal : (local : ℕ) (value : Staged) → Node
  SetGlobal : (global : ℕ) (value : Staged) → Node
  Lambda : (inside : InsideOf) → Node
  -- the lambdas of a letrec stand at one level
  Group : (entries : List GroupEntry) (level : Level) (members : List Member) (rest : Staged) → Node
  -- a letrec of one local, and what stands in it
  Loop : (local : ℕ) (inside : InsideOf) (rest : Staged) → Node
  Case : (kind : CaseKind) (key : Staged) (choices : List ChoiceOf) (last : Staged) → Node
  -- the same with a local for the key, and an if for each clause
  Ifs : (local : ℕ) (key : Staged) (choices : List ChoiceOf) (last : Staged) → Node

-- an expression that is made, a part that is all there is, or a node of the form at a place
pub data Plan : Type 0 where
  Done : (expression : Expr) → Plan
  Same : (part : Staged) → Plan
  Of : (place : Place) (node : Node) → Plan

-- a part for which nothing is bound
abbrev pub staged : Level → Part → Staged
staged l p = record { level = l; scope = Here; part = p }

-- parts of one level
abbrev pub staged_all : Level → List Operand → List Staged
staged_all l ps = map (λ p. staged l (part_of p)) ps

-- forms of one level
abbrev pub staged_forms : Level → List Syntax → List Staged
staged_forms l fs = map (λ f. staged l (One f)) fs

-- forms in a row, of which the last is passed tail position
abbrev pub in_row : Level → List Syntax → Level
in_row l [] = passed l
in_row l (f ∷ fs) = down l

abbrev pub staged_row : Level → List Syntax → List Staged
staged_row l [] = []
staged_row l (f ∷ fs) = staged (in_row l fs) (One f) ∷ staged_row l fs

-- operands that are grouped to the left: the first stands as many nodes lower as there are others, the last one lower
abbrev pub staged_sum : Level → List Operand → List Staged
staged_sum l [] = []
staged_sum l (p ∷ ps) = staged (operand_at l (length (p ∷ ps))) (part_of p) ∷ staged_sum l ps
