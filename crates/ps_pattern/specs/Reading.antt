-- How a pattern is read. Read `pattern_of dots literals f depth` as: the pattern that the form f is under so many ellipses,
-- with its variables from left to right, and nothing where f is no pattern.
use Rattle.std.specs.Prelude.{ℕ, ◌+◌, Bool, if◌then◌else◌, List, [], ◌∷◌, ◌++◌, length, map, Option, Some, None}
use Rattle.std.specs.Option.{option_map, option_and_then}
use Rattle.ps_pattern.specs.declared.syntax.Ident.{Ident}
use Rattle.ps_pattern.specs.declared.syntax.Syntax.{Syntax, fold-Syntax}
use Rattle.ps_pattern.specs.declared.syntax.SyntaxNode.TheOpen as o
use Rattle.ps_pattern.specs.declared.rules.Pattern.{Pattern}
use Rattle.ps_pattern.specs.declared.rules.Pattern.TheVariants as p
use Rattle.ps_pattern.specs.declared.variables.Var.{Var}
use Rattle.ps_pattern.specs.declared.variables.Read.{Read}
use Rattle.ps_pattern.specs.declared.variables.Row.{Row}
use Rattle.ps_pattern.specs.declared.variables.Row.TheVariants.{Plain, Each}
use Rattle.ps_pattern.specs.declared.variables.RowRead.{RowRead}
use Rattle.ps_pattern.specs.Identifiers.{Keys, is_named, among, dots_in, is_only}

-- under so many ellipses
abbrev pub Reader : Type 0
Reader = ℕ → Option Read

-- what the list around a form sees of it
pub record View : Type 0 where
  pub is_dots : Bool
  pub read : Reader

-- a pattern without variables
abbrev pub bare : Pattern → Option Read
bare x = Some (record { pattern = x; vars = [] })

abbrev pub variable : Ident → ℕ → Read
variable id depth = record { pattern = p.Variable; vars = record { id = id; depth = depth } ∷ [] }

-- `...` alone is no pattern
abbrev pub ident_read : Option ℕ → Keys → Ident → Reader
ident_read dots literals id depth =
    if is_named dots id then None else if among id literals then bare (p.Literal id) else Some (variable id depth)

abbrev pub put_before : List Pattern → Row → Row
put_before ps (Plain qs) = Plain (ps ++ qs)
put_before ps (Each qs q w) = Each (ps ++ qs) q w

-- patterns and their variables stand before a row
abbrev pub in_front : List Pattern → List Var → RowRead → RowRead
in_front ps vs r = record { row = put_before ps r.row; vars = vs ++ r.vars }

abbrev pub behind_first : RowRead → RowRead
behind_first r = in_front (p.Ignored ∷ []) [] r

abbrev pub lone_each : Read → RowRead
lone_each r = record { row = Each [] r.pattern (length r.vars); vars = r.vars }

abbrev pub row_after : Option RowRead → Read → Option RowRead
row_after rest r = option_map (in_front (r.pattern ∷ []) r.vars) rest

-- the patterns of a row: `...` behind the last one, and nowhere else
abbrev pub row_read : ℕ → List View → Option RowRead
row_read depth [] = Some (record { row = Plain []; vars = [] })
row_read depth (x ∷ xs) =
    if is_only (map (λ y. y.is_dots) xs)
    then option_map lone_each (x.read (depth + 1))
    else option_and_then (row_after (row_read depth xs)) (x.read depth)

abbrev pub list_row : Row → Pattern
list_row (Plain ps) = p.List ps
list_row (Each ps q w) = p.ListEach ps q w

abbrev pub vector_row : Row → Pattern
vector_row (Plain ps) = p.Vector ps
vector_row (Each ps q w) = p.VectorEach ps q w

abbrev pub list_read : RowRead → Read
list_read r = record { pattern = list_row r.row; vars = r.vars }

abbrev pub vector_read : RowRead → Read
vector_read r = record { pattern = vector_row r.row; vars = r.vars }

-- no `...` before the dot
abbrev pub dotted_row : Row → List Var → Read → Option Read
dotted_row (Plain ps) vs r = Some (record { pattern = p.Dotted ps r.pattern; vars = vs ++ r.vars })
dotted_row (Each ps q w) vs r = None

abbrev pub dotted_read : Option Read → RowRead → Option Read
dotted_read last r = option_and_then (dotted_row r.row r.vars) last

abbrev pub level_read : Option ℕ → Keys → o.SyntaxNode-F View View → Reader
level_read dots literals (o.Ident id) depth = ident_read dots literals id depth
level_read dots literals (o.Boolean x) depth = bare (p.Boolean x)
level_read dots literals (o.Integer x) depth = bare (p.Integer x)
level_read dots literals (o.Char x) depth = bare (p.Char x)
level_read dots literals (o.Text x) depth = bare (p.Text x)
level_read dots literals (o.List xs) depth = option_map list_read (row_read depth xs)
level_read dots literals (o.Vector xs) depth = option_map vector_read (row_read depth xs)
level_read dots literals (o.Dotted xs x) depth = option_and_then (dotted_read (x.read depth)) (row_read depth xs)

abbrev pub level_view : Option ℕ → Keys → o.SyntaxNode-F View View → View
level_view dots literals x = record { is_dots = dots_in dots x; read = level_read dots literals x }

unfoldable pub view : Option ℕ → Keys → Syntax → View
view dots literals f = fold-Syntax View View (level_view dots literals) (λ x. x.node) f

unfoldable pub pattern_of : Option ℕ → Keys → Syntax → Reader
pattern_of dots literals f = (view dots literals f).read

-- a row of forms
abbrev pub row_of : Option ℕ → Keys → ℕ → List Syntax → Option RowRead
row_of dots literals depth fs = row_read depth (map (view dots literals) fs)
