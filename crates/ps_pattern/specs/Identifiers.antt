-- What identifiers are told by (R5RS 4.3.2; stamps are this project's own). Read `key id` as: what tells the identifier id,
-- its base name and the transcriptions that inserted it, and `dots_at dots f` as: the form f is the ellipsis.
use Rattle.std.specs.Prelude.{ℕ, Bool, false, ◌==◌, if◌then◌else◌, List, [], ◌∷◌, ◌++◌, Option, Some, None, position}
use Rattle.std.specs.Str.{bytes_eq}
use Rattle.std.specs.List.{list_any}
use Rattle.ps_pattern.specs.declared.syntax.Ident.{Ident}
use Rattle.ps_pattern.specs.declared.syntax.Syntax.{Syntax}
use Rattle.ps_pattern.specs.declared.syntax.SyntaxNode.{out-SyntaxNode}
use Rattle.ps_pattern.specs.declared.syntax.SyntaxNode.TheOpen as o

-- by base name alone
abbrev pub is_named : Option ℕ → Ident → Bool
is_named None id = false
is_named (Some name) id = name == id.name.0

abbrev pub key : Ident → List ℕ
key id = id.name.0 ∷ id.stamps

abbrev pub Keys : Type 0
Keys = List (List ℕ)

abbrev pub stands : Keys → List ℕ → Bool
stands keys k = list_any (λ x. bytes_eq k x) keys

-- the first place in which a key stands
abbrev pub place_of : Keys → List ℕ → Option ℕ
place_of keys k = position (λ x. bytes_eq k x) keys

abbrev pub among : Ident → Keys → Bool
among id keys = stands keys (key id)

abbrev pub with_key : Keys → List ℕ → Keys
with_key keys k = if stands keys k then keys else keys ++ k ∷ []

-- keys, and behind them those of the identifiers that do not stand before
abbrev pub all_keys : Keys → List Ident → Keys
all_keys keys [] = keys
all_keys keys (id ∷ ids) = all_keys (with_key keys (key id)) ids

abbrev pub dots_in : {A B : Type 0} → Option ℕ → o.SyntaxNode-F A B → Bool
dots_in dots (o.Ident id) = is_named dots id
dots_in dots (o.Boolean x) = false
dots_in dots (o.Integer x) = false
dots_in dots (o.Char x) = false
dots_in dots (o.Text x) = false
dots_in dots (o.List fs) = false
dots_in dots (o.Dotted fs f) = false
dots_in dots (o.Vector fs) = false

-- whether a form is `...`
abbrev pub dots_at : Option ℕ → Syntax → Bool
dots_at dots f = dots_in dots (out-SyntaxNode f.node)

-- one thing, and it is so
abbrev pub is_only : List Bool → Bool
is_only [] = false
is_only (x ∷ []) = x
is_only (x ∷ y ∷ ys) = false

abbrev pub starts : List Bool → Bool
starts [] = false
starts (x ∷ xs) = x
