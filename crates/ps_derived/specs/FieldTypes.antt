-- The types of the fields of records (this project's own, after Pre-Scheme). Read `type_of words f` as: the type that the form f stands for
-- where the names of types have these numbers, and nothing where f is none. Names of types are told by base name.
use Rattle.std.specs.Prelude.{ℕ, Bool, false, if◌then◌else◌, List, [], ◌∷◌, Option, Some, None, codes}
use Rattle.std.specs.Option.{option_map}
use Rattle.ps_base.specs.Names.{number_of}
use Rattle.ps_pattern.specs.declared.syntax.Ident.{Ident}
use Rattle.ps_pattern.specs.declared.syntax.Syntax.{Syntax, fold-Syntax}
use Rattle.ps_pattern.specs.declared.syntax.SyntaxNode.TheOpen as o
use Rattle.ps_pattern.specs.Identifiers.{is_named}
use Rattle.ps_derived.specs.declared.types.TypeForm.{TypeForm}
use Rattle.ps_derived.specs.declared.types.TypeForm.TheVariants as t
use Rattle.ps_derived.specs.declared.types.TypeWords.{TypeWords}

-- the numbers of the names of types
abbrev pub type_words : List (List ℕ) → TypeWords
type_words names = record {
  integer = number_of names (codes "integer");
  boolean = number_of names (codes "boolean");
  character = number_of names (codes "char");
  unit = number_of names (codes "unit");
  address = number_of names (codes "address");
  text = number_of names (codes "string");
  vector = number_of names (codes "vector");
}

-- one of the six names, or the name of a record type
abbrev pub named_type : TypeWords → Ident → TypeForm
named_type w id =
    if is_named w.integer id then t.Integer
    else if is_named w.boolean id then t.Boolean
    else if is_named w.character id then t.Char
    else if is_named w.unit id then t.Unit
    else if is_named w.address id then t.Address
    else if is_named w.text id then t.Text
    else t.Record id

-- what the list around a form sees of it
pub record TypeView : Type 0 where
  pub ident : Option Ident
  pub type : Option TypeForm

abbrev pub is_vector : TypeWords → Option Ident → Bool
is_vector w None = false
is_vector w (Some id) = is_named w.vector id

-- (vector t)
abbrev pub vector_type : TypeWords → List TypeView → Option TypeForm
vector_type w (v ∷ x ∷ []) = if is_vector w v.ident then option_map t.Vector x.type else None
vector_type w xs = None

abbrev pub type_in : TypeWords → o.SyntaxNode-F TypeView TypeView → Option TypeForm
type_in w (o.Ident id) = Some (named_type w id)
type_in w (o.List xs) = vector_type w xs
type_in w (o.Boolean x) = None
type_in w (o.Integer x) = None
type_in w (o.Char x) = None
type_in w (o.Text x) = None
type_in w (o.Dotted xs x) = None
type_in w (o.Vector xs) = None

abbrev pub ident_of : o.SyntaxNode-F TypeView TypeView → Option Ident
ident_of (o.Ident id) = Some id
ident_of x = None

abbrev pub view_in : TypeWords → o.SyntaxNode-F TypeView TypeView → TypeView
view_in w x = record { ident = ident_of x; type = type_in w x }

unfoldable pub type_view : TypeWords → Syntax → TypeView
type_view w f = fold-Syntax TypeView TypeView (view_in w) (λ x. x.node) f

unfoldable pub type_of : TypeWords → Syntax → Option TypeForm
type_of w f = (type_view w f).type
