-- What forms are made of (R5RS 7.1.3). Read `forms_of f` as: the forms between the brackets of the list f, and nothing where f is no
-- list, `idents_in fs` as: the identifiers that the forms fs are, and nothing where one of them is none, and `counts use word id` as: the
-- identifier id has the base name of this number, and is unbound where it is used.
use Rattle.std.specs.Prelude.{ℕ, Bool, true, false, ◌&&◌, List, [], ◌∷◌, map, Option, Some, None}
use Rattle.std.specs.Option.{option_and_then}
use Rattle.ps_pattern.specs.declared.syntax.Ident.{Ident}
use Rattle.ps_pattern.specs.declared.syntax.Syntax.{Syntax}
use Rattle.ps_pattern.specs.declared.syntax.SyntaxNode.{out-SyntaxNode}
use Rattle.ps_pattern.specs.declared.binding.Binding.{Binding}
use Rattle.ps_pattern.specs.declared.binding.Binding.TheVariants as b
use Rattle.ps_pattern.specs.Identifiers.{is_named}
use Rattle.ps_pattern.specs.Matching.{collect}
use Rattle.ps_pattern.specs.Compiling.{list_parts, ident_at}

abbrev pub forms_of : Syntax → Option (List Syntax)
forms_of f = list_parts (out-SyntaxNode f.node)

abbrev pub idents_in : List Syntax → Option (List Ident)
idents_in fs = collect (map ident_at fs)

-- at least one form
abbrev pub some : List Syntax → Option (List Syntax)
some [] = None
some (f ∷ fs) = Some (f ∷ fs)

-- the forms behind the first one
abbrev pub behind : List Syntax → Option (List Syntax)
behind [] = None
behind (f ∷ fs) = Some fs

-- the forms behind the name of a special form
abbrev pub operands_of : Syntax → Option (List Syntax)
operands_of f = option_and_then behind (forms_of f)

abbrev pub when : {A : Type 0} → Bool → A → Option A
when true x = Some x
when false x = None

abbrev pub is_unbound : Binding → Bool
is_unbound (b.Unbound name) = true
is_unbound (b.Local n) = false
is_unbound (b.Global n) = false
is_unbound (b.Macro n) = false
is_unbound (b.Core c) = false
is_unbound (b.Primitive p) = false

abbrev pub counts : (Ident → Binding) → Option ℕ → Ident → Bool
counts use_of word id = is_named word id && is_unbound (use_of id)
