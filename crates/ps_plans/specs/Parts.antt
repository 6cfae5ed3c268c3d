-- Parts of a form (this project's own): what is expanded at one level in one environment.
use Rattle.std.specs.Prelude.{ℕ, List, Option, map}
use Rattle.ps_base.specs.declared.faults.Place.{Place}
use Rattle.ps_derived.specs.PartsOf.{BindingOf, ClauseOf}
use Rattle.ps_derived.specs.declared.types.Label.{Label}
use Rattle.ps_kernel.specs.declared.expr.Constant.{Constant}
use Rattle.ps_pattern.specs.declared.syntax.Ident.{Ident}
use Rattle.ps_pattern.specs.declared.syntax.Syntax.{Syntax}

-- an operand: a form, or a mention of a local that the form at a place itself binds
pub data Operand : Type 0 where
  Given : (form : Syntax) → Operand
  Held : (place : Place) (local : ℕ) → Operand

-- names for values that see none of them, of which the first have their locals, and the body of the form at a place
pub record LetsOf : Type 0 where
  pub names : List Ident
  pub locals : List ℕ
  pub values : List Operand
  pub place : Place
  pub body : List Syntax

-- a round of a loop: the test, the results and the commands, and what the next round begins with
pub record RoundOf : Type 0 where
  pub local : ℕ
  pub test : Syntax
  pub results : List Syntax
  pub commands : List Syntax
  pub nexts : List Operand

-- a part of the form at a place that has a row of its own
pub data Piece : Type 0 where
  -- a mention of a local, and a constant
  Mention : (place : Place) (local : ℕ) → Piece
  Fixed : (place : Place) (value : Constant) → Piece
  -- the expressions of a body, of which the first is no macro use
  Expressions : (place : Place) (first : Syntax) (more : List Syntax) → Piece
  -- none, which is a unit, one, or several in order
  Sequence : (place : Place) (forms : List Syntax) → Piece
  -- the other operands of `and`, of `or`, and the other clauses of `cond`
  Ands : (place : Place) (forms : List Syntax) → Piece
  Ors : (place : Place) (forms : List Syntax) → Piece
  Conds : (place : Place) (clauses : List ClauseOf) (last : Option (List Syntax)) → Piece
  -- the test of a clause with `=>`, whose value a local has, what is applied to it, and the other clauses
  Arrow : (place : Place) (local : ℕ) (operator : Syntax) (clauses : List ClauseOf) (last : Option (List Syntax)) → Piece
  -- a clause of `case`
  Branch : (place : Place) (labels : List Label) (body : List Syntax) → Piece
  -- a lambda
  Lambda : (place : Place) (parameters : List Ident) (body : List Syntax) → Piece
  -- the other bindings of `let`, of `let*`, and the values of `letrec`, whose names have their locals
  Lets : (place : Place) (lets : LetsOf) → Piece
  Stars : (place : Place) (bindings : List BindingOf) (body : List Syntax) → Piece
  Values : (place : Place) (bindings : List BindingOf) (locals : List ℕ) (body : List Syntax) → Piece
  -- a round of `do`, its commands and the call behind them, and that call
  Round : (place : Place) (round : RoundOf) → Piece
  Commands : (place : Place) (forms : List Syntax) (local : ℕ) (nexts : List Operand) → Piece
  Again : (place : Place) (local : ℕ) (nexts : List Operand) → Piece

pub data Part : Type 0 where
  -- a form, and one that is no macro use
  One : (form : Syntax) → Part
  Settled : (form : Syntax) → Part
  -- a body, and one that makes a node also where it is a single expression
  Body : (place : Place) (forms : List Syntax) → Part
  Alone : (place : Place) (forms : List Syntax) → Part
  -- an operator that is not yet known, and its operands
  Applied : (place : Place) (operator : Syntax) (operands : List Operand) → Part
  -- what has a row of its own
  Row : (piece : Piece) → Part

abbrev pub part_of : Operand → Part
part_of (Given f) = One f
part_of (Held at x) = Row (Mention at x)

abbrev pub givens : List Syntax → List Operand
givens fs = map Given fs
