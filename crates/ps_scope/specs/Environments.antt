-- What identifiers stand for (R5RS 3.1, 4.3; the stamps of identifiers are this project's own). An environment is a list of
-- pairs, from the word of an identifier to its binding, the newest pair first; the newest pair of a word counts. Read `found env
-- w` as: what the word w stands for in env, `is_among n env w` as: w is one of the newest n words of env, `has_local env l` as:
-- some pair of env is bound to the local l, `kept_at kept n` as: the environment that was kept under the number n, and `defined
-- es o w` as: what the newest definition of the word w by the owner o says.
use Rattle.std.specs.Prelude.{ℕ, Bool, false, ◌==◌, ◌&&◌, ◌||◌, List, [], ◌∷◌, Option, Some, None, is_some, take, slice_get, if◌then◌else◌}
use Rattle.std.specs.Str.{bytes_eq}
use Rattle.ps_base.specs.declared.names.Name.{Name}
use Rattle.ps_pattern.specs.declared.syntax.Ident.{Ident}
use Rattle.ps_pattern.specs.declared.binding.Binding.{Binding}
use Rattle.ps_pattern.specs.declared.binding.Binding.TheVariants as b

-- An identifier's word is its name and then its stamps, the latest first.
abbrev pub word : Name → List ℕ → List ℕ
word name stamps = name.0 ∷ stamps

abbrev pub word_of : Ident → List ℕ
word_of id = word id.name id.stamps

pub record Pair : Type 0 where
  pub word : List ℕ
  pub binding : Binding

abbrev pub pair_of : List ℕ → Binding → Pair
pair_of w binding = record { word = w; binding = binding }

abbrev pub Env : Type 0
Env = List Pair

-- what the newest pair of a word says, where there is one
abbrev pub found : Env → List ℕ → Option Binding
found [] w = None
found (p ∷ env) w = if bytes_eq w p.word then Some p.binding else found env w

-- whether the newest pairs, as many as a number says, have a word
abbrev pub is_among : ℕ → Env → List ℕ → Bool
is_among n env w = is_some (found (take n env) w)

-- whether a binding is the local of a number
abbrev pub is_local : ℕ → Binding → Bool
is_local l (b.Local x) = x == l
is_local l (b.Global x) = false
is_local l (b.Macro x) = false
is_local l (b.Core x) = false
is_local l (b.Primitive x) = false
is_local l (b.Unbound x) = false

abbrev pub has_local : Env → ℕ → Bool
has_local [] l = false
has_local (p ∷ env) l = is_local l p.binding || has_local env l

-- The environment here, and those that were kept, numbered from 0 in the order in which they were.
pub record Frames : Type 0 where
  pub here : Env
  pub kept : List Env

abbrev pub or_empty : Option Env → Env
or_empty (Some env) = env
or_empty None = []

-- the environment that was kept under a number; an empty one where there is none
abbrev pub kept_at : List Env → ℕ → Env
kept_at kept n = or_empty (slice_get kept n)

-- A definition: whose it is, which word it defines, and as what.
pub record Entry : Type 0 where
  pub owner : ℕ
  pub word : List ℕ
  pub binding : Binding

abbrev pub entry_of : ℕ → List ℕ → Binding → Entry
entry_of owner w binding = record { owner = owner; word = w; binding = binding }

-- whether a definition is that of a word by an owner
abbrev pub is_of : ℕ → List ℕ → Entry → Bool
is_of owner w e = (owner == e.owner) && bytes_eq w e.word

-- what the newest definition of a word by an owner says, where there is one
abbrev pub defined : List Entry → ℕ → List ℕ → Option Binding
defined [] owner w = None
defined (e ∷ es) owner w = if is_of owner w e then Some e.binding else defined es owner w
