-- The parts of special forms (R5RS 4.1, 4.2 and 5.2 to 5.3; `goto` and record types are this project's own, after Pre-Scheme). Each
-- form has one variant of `PartsOf`, whose fields are its parts in the order in which they are written.
use Rattle.std.specs.Prelude.{ℕ, List, Option}
use Rattle.ps_pattern.specs.declared.syntax.Ident.{Ident}
use Rattle.ps_pattern.specs.declared.syntax.Syntax.{Syntax}
use Rattle.ps_derived.specs.declared.types.Label.{Label}

-- (x e)
pub record BindingOf : Type 0 where
  pub name : Ident
  pub value : Syntax

-- (x i s) or (x i)
pub record LoopBindingOf : Type 0 where
  pub name : Ident
  pub first : Syntax
  pub step : Option Syntax

-- (k rules)
pub record MacroOf : Type 0 where
  pub keyword : Ident
  pub rules : Syntax

-- x e, or (f x ...) body
pub data DefinedOf : Type 0 where
  Variable : Ident → Syntax → DefinedOf
  Procedure : Ident → List Ident → List Syntax → DefinedOf

-- (t), (t => f) or (t e ...)
pub data ClauseOf : Type 0 where
  Alone : Syntax → ClauseOf
  Arrow : Syntax → Syntax → ClauseOf
  Then : Syntax → List Syntax → ClauseOf

-- ((d ...) e ...)
pub record CaseClauseOf : Type 0 where
  pub labels : List Label
  pub body : List Syntax

-- (field type accessor modifier) or (field type accessor)
pub record FieldOf : Type 0 where
  pub name : Ident
  pub kind : Syntax
  pub accessor : Ident
  pub modifier : Option Ident

-- n :n (maker field ...) pred spec ..., where each operand of the maker is the index of its field
pub record RecordTypeOf : Type 0 where
  pub name : Ident
  pub kind : Ident
  pub maker : Ident
  pub operands : List ℕ
  pub predicate : Option Ident
  pub fields : List FieldOf

pub data PartsOf : Type 0 where
  Define : DefinedOf → PartsOf
  DefineSyntax : MacroOf → PartsOf
  RecordType : RecordTypeOf → PartsOf
  Lambda : List Ident → List Syntax → PartsOf
  If : Syntax → Syntax → Option Syntax → PartsOf
  Let : List BindingOf → List Syntax → PartsOf
  NamedLet : Ident → List BindingOf → List Syntax → PartsOf
  LetStar : List BindingOf → List Syntax → PartsOf
  Letrec : List BindingOf → List Syntax → PartsOf
  Begin : List Syntax → PartsOf
  Set : Ident → Syntax → PartsOf
  Quote : Syntax → PartsOf
  Cond : List ClauseOf → Option (List Syntax) → PartsOf
  Case : Syntax → List CaseClauseOf → Option (List Syntax) → PartsOf
  And : List Syntax → PartsOf
  Or : List Syntax → PartsOf
  Do : List LoopBindingOf → Syntax → List Syntax → List Syntax → PartsOf
  Goto : Syntax → List Syntax → PartsOf
  LetSyntax : List MacroOf → List Syntax → PartsOf
  LetrecSyntax : List MacroOf → List Syntax → PartsOf
