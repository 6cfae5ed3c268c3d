-- What a form is, told by its outermost level and by what its operator means (R5RS 4.1, 4.3).
use Rattle.std.specs.Prelude.{ℕ, ℤ, Bool, List, [], ◌∷◌, Option, Some, None}
use Rattle.ps_base.specs.declared.language.Core.{Core}
use Rattle.ps_pattern.specs.declared.binding.Binding.{Binding}
use Rattle.ps_pattern.specs.declared.binding.Binding.TheVariants as b
use Rattle.ps_pattern.specs.declared.syntax.Ident.{Ident}
use Rattle.ps_pattern.specs.declared.syntax.Syntax.{Syntax}
use Rattle.ps_pattern.specs.declared.syntax.SyntaxNode.{SyntaxNode, out-SyntaxNode}
use Rattle.ps_pattern.specs.declared.syntax.SyntaxNode.TheOpen as o
use Rattle.ps_scope.specs.Environments.{Env}
use Rattle.ps_hygiene.specs.declared.meaning.Meant.{Meant}
use Rattle.ps_hygiene.specs.Meanings.{meaning}
use Rattle.ps_hygiene.specs.Worlds.{World}

abbrev pub Node : Type 0
Node = o.SyntaxNode-F SyntaxNode Syntax

pub data Shape : Type 0 where
  -- what stands for itself
  Boolean : (value : Bool) → Shape
  Integer : (value : ℤ) → Shape
  Char : (code : ℕ) → Shape
  Text : (bytes : List ℕ) → Shape
  -- an identifier
  Name : (meant : Meant) → Shape
  -- a list that begins with the name of a special form
  Special : (core : Core) → Shape
  -- a list or a dotted list that begins with the name of a macro
  Use : (number : ℕ) → Shape
  -- another list
  Call : (operator : Syntax) (operands : List Syntax) → Shape
  -- a vector, a dotted list, or the empty list
  Bad : Shape

abbrev pub by_operator : Syntax → List Syntax → Binding → Shape
by_operator g fs (b.Core c) = Special c
by_operator g fs (b.Macro m) = Use m
by_operator g fs (b.Local x) = Call g fs
by_operator g fs (b.Global x) = Call g fs
by_operator g fs (b.Primitive p) = Call g fs
by_operator g fs (b.Unbound x) = Call g fs

abbrev pub by_dotted_operator : Binding → Shape
by_dotted_operator (b.Macro m) = Use m
by_dotted_operator other = Bad

module _ (mean : Ident → Meant) where
  abbrev pub list_shape : Syntax → List Syntax → Node → Shape
  list_shape g fs (o.Ident x) = by_operator g fs ((mean x).binding)
  list_shape g fs other = Call g fs

  abbrev pub dotted_shape : Node → Shape
  dotted_shape (o.Ident x) = by_dotted_operator ((mean x).binding)
  dotted_shape other = Bad

  abbrev pub node_shape : Node → Shape
  node_shape (o.Boolean x) = Boolean x
  node_shape (o.Integer n) = Integer n
  node_shape (o.Char c) = Char c
  node_shape (o.Text bytes) = Text bytes
  node_shape (o.Ident x) = Name (mean x)
  node_shape (o.List []) = Bad
  node_shape (o.List (g ∷ fs)) = list_shape g fs (out-SyntaxNode g.node)
  node_shape (o.Dotted [] last) = Bad
  node_shape (o.Dotted (g ∷ fs) last) = dotted_shape (out-SyntaxNode g.node)
  node_shape (o.Vector fs) = Bad

unfoldable pub shape : World → Env → Syntax → Shape
shape w env f = node_shape (meaning w env) (out-SyntaxNode f.node)

-- the macro that a form uses
abbrev pub used : Shape → Option ℕ
used (Use m) = Some m
used other = None
