-- How a template is read (R5RS 4.3.2). Read `template_of dots keys depths f n` as: the template that the form f is where n
-- ellipses are around it and the pattern's variables have these keys and depths, and nothing where f is no template.
use Rattle.std.specs.Prelude.{ℕ, ◌+◌, Bool, true, false, if◌then◌else◌, List, [], ◌∷◌, map, Option, Some, None, slice_get}
use Rattle.std.specs.Option.{option_map, option_and_then}
use Rattle.ps_pattern.specs.declared.syntax.Ident.{Ident}
use Rattle.ps_pattern.specs.declared.syntax.Syntax.{Syntax, fold-Syntax}
use Rattle.ps_pattern.specs.declared.syntax.SyntaxNode.TheOpen as o
use Rattle.ps_pattern.specs.declared.template.Template.{Template}
use Rattle.ps_pattern.specs.declared.template.Template.TheVariants as t
use Rattle.ps_pattern.specs.declared.template.Part.{Part}
use Rattle.ps_pattern.specs.declared.template.Part.TheVariants as q
use Rattle.ps_pattern.specs.Identifiers.{Keys, is_named, key, place_of, dots_in, starts}
use Rattle.ps_pattern.specs.Surveys.{stands_under, deep}

-- under so many ellipses
abbrev pub Reader : Type 0
Reader = ℕ → Option Template

-- what the list around a form sees of it
pub record View : Type 0 where
  pub is_dots : Bool
  pub read : Reader

abbrev pub variable_under : ℕ → Option ℕ → ℕ → Option Template
variable_under v None n = None
variable_under v (Some d) n = if stands_under d n then Some (t.Variable v) else None

abbrev pub placed : List ℕ → Ident → Option ℕ → ℕ → Option Template
placed depths id None n = Some (t.Inserted id)
placed depths id (Some v) n = variable_under v (slice_get depths v) n

-- `...` alone is no template
abbrev pub ident_read : Option ℕ → Keys → List ℕ → Ident → Reader
ident_read dots keys depths id n = if is_named dots id then None else placed depths id (place_of keys (key id)) n

abbrev pub each_with : List ℕ → Template → Option Part
each_with [] x = None
each_with (v ∷ vs) x = Some (q.Each x (v ∷ vs))

-- an ellipsis goes through the variables of depth 1 or more below it, and there is one
abbrev pub each_of : List ℕ → Template → Option Part
each_of depths x = each_with (deep depths x) x

abbrev pub part_read : List ℕ → Bool → View → ℕ → Option Part
part_read depths each x n = if each then option_and_then (each_of depths) (x.read (n + 1)) else option_map q.Plain (x.read n)

abbrev pub before : Option (List Part) → Part → Option (List Part)
before rest x = option_map (λ xs. x ∷ xs) rest

-- the parts of a list; `may` tells that `...` may stand next, where it belongs to the part before it
abbrev pub parts_read : List ℕ → ℕ → Bool → List View → Option (List Part)
parts_read depths n may [] = Some []
parts_read depths n may (x ∷ xs) =
    if x.is_dots
    then (if may then parts_read depths n false xs else None)
    else option_and_then (before (parts_read depths n true xs)) (part_read depths (starts (map (λ y. y.is_dots) xs)) x n)

abbrev pub dotted_of : Option Template → List Part → Option Template
dotted_of last ps = option_map (t.Dotted ps) last

abbrev pub level_read : Option ℕ → Keys → List ℕ → o.SyntaxNode-F View View → Reader
level_read dots keys depths (o.Ident id) n = ident_read dots keys depths id n
level_read dots keys depths (o.Boolean x) n = Some (t.Boolean x)
level_read dots keys depths (o.Integer x) n = Some (t.Integer x)
level_read dots keys depths (o.Char x) n = Some (t.Char x)
level_read dots keys depths (o.Text x) n = Some (t.Text x)
level_read dots keys depths (o.List xs) n = option_map t.List (parts_read depths n false xs)
level_read dots keys depths (o.Vector xs) n = option_map t.Vector (parts_read depths n false xs)
level_read dots keys depths (o.Dotted xs x) n = option_and_then (dotted_of (x.read n)) (parts_read depths n false xs)

abbrev pub level_view : Option ℕ → Keys → List ℕ → o.SyntaxNode-F View View → View
level_view dots keys depths x = record { is_dots = dots_in dots x; read = level_read dots keys depths x }

unfoldable pub view : Option ℕ → Keys → List ℕ → Syntax → View
view dots keys depths f = fold-Syntax View View (level_view dots keys depths) (λ x. x.node) f

unfoldable pub template_of : Option ℕ → Keys → List ℕ → Syntax → Reader
template_of dots keys depths f = (view dots keys depths f).read
