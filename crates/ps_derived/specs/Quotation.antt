-- Quoted data (R5RS 4.1.2, in this project's profile). Read `quoted f` as: the constant that the datum of the form f is, and nothing where
-- it may not be quoted. An integer, a boolean and a character are constants by themselves; a string, and a vector of at least one such
-- datum or vector, is a block.
use Rattle.std.specs.Prelude.{ℕ, ℤ, Bool, true, false, ◌&&◌, List, [], ◌∷◌, Option, Some, None}
use Rattle.ps_pattern.specs.declared.syntax.Syntax.{Syntax, fold-Syntax}
use Rattle.ps_pattern.specs.declared.syntax.SyntaxNode.{SyntaxNode, fold-SyntaxNode, out-SyntaxNode}
use Rattle.ps_pattern.specs.declared.syntax.SyntaxNode.TheOpen as o
use Rattle.ps_pattern.specs.Compiling.{Node}
use Rattle.ps_derived.specs.Forms.{when}

pub data QuotedOf : Type 0 where
  Integer : ℤ → QuotedOf
  Boolean : Bool → QuotedOf
  Char : ℕ → QuotedOf
  Block : Syntax → QuotedOf

abbrev pub all_constant : List Bool → Bool
all_constant [] = true
all_constant (b ∷ bs) = b && all_constant bs

-- at least one, and all of them
abbrev pub some_constant : List Bool → Bool
some_constant [] = false
some_constant (b ∷ bs) = b && all_constant bs

abbrev pub constant_in : o.SyntaxNode-F Bool Bool → Bool
constant_in (o.Integer x) = true
constant_in (o.Boolean x) = true
constant_in (o.Char x) = true
constant_in (o.Text x) = true
constant_in (o.Vector xs) = some_constant xs
constant_in (o.Ident x) = false
constant_in (o.List xs) = false
constant_in (o.Dotted xs x) = false

-- whether a datum may be quoted
unfoldable pub is_constant : Syntax → Bool
is_constant f = fold-Syntax Bool Bool constant_in (λ x. x.node) f

unfoldable pub node_constant : SyntaxNode → Bool
node_constant x = fold-SyntaxNode Bool Bool constant_in (λ x. x.node) x

abbrev pub block : Syntax → Option QuotedOf
block f = when (is_constant f) (Block f)

abbrev pub quoted_in : Syntax → Node → Option QuotedOf
quoted_in f (o.Integer x) = Some (Integer x)
quoted_in f (o.Boolean x) = Some (Boolean x)
quoted_in f (o.Char x) = Some (Char x)
quoted_in f (o.Text x) = block f
quoted_in f (o.Vector xs) = block f
quoted_in f (o.Ident x) = None
quoted_in f (o.List xs) = None
quoted_in f (o.Dotted xs x) = None

abbrev pub quoted : Syntax → Option QuotedOf
quoted f = quoted_in f (out-SyntaxNode f.node)
