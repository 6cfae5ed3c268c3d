-- Environments over the table (private; this project's own). The pairs of an environment are the entries of the owner 0. Read
-- `how_many env l` as: how many pairs of env are bound to the local l.
use Rattle.std.specs.Prelude.{ℕ, zero, suc, ◌≡◌, ◌+◌, ◌<◌, List, [], ◌∷◌, length, map, slice_index, if◌then◌else◌}
use Rattle.std.specs.List.{All}
use Rattle.ps_pattern.specs.declared.binding.Binding.{Binding}
use Rattle.ps_pattern.specs.declared.binding.Binding.TheVariants as b
use Rattle.ps_scope.specs.Environments.{Entry, Pair, pair_of, Env, is_local}

-- no word of an identifier is empty
abbrev pub unowned : ℕ → List ℕ → List ℕ
unowned zero w = w
unowned (suc owner) w = []

abbrev pub pair : Entry → Pair
pair e = pair_of (unowned e.owner e.word) e.binding

abbrev pub pairs : List Entry → Env
pairs es = map pair es

abbrev pub one_if_local : ℕ → Binding → ℕ
one_if_local l binding = if is_local l binding then 1 else 0

abbrev pub how_many : Env → ℕ → ℕ
how_many [] l = 0
how_many (p ∷ env) l = one_if_local l p.binding + how_many env l

-- the numbers of rows are numbers of trails
pub record AreRows (ts : List (List Entry)) (numbers : List ℕ) : Type 0 where
  pub within : All (λ n. n < length ts) numbers

-- each local has its count
pub record AreCounted (env : Env) (counts : List ℕ) : Type 0 where
  pub counted : (l : ℕ) → slice_index counts l ≡ how_many env l

-- there is a count for a binding, where it is a local
abbrev pub HasCount : List ℕ → Binding → Type 0
HasCount counts (b.Local l) = l < length counts
HasCount counts (b.Global x) = Unit
HasCount counts (b.Macro x) = Unit
HasCount counts (b.Core x) = Unit
HasCount counts (b.Primitive x) = Unit
HasCount counts (b.Unbound x) = Unit
