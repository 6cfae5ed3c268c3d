-- What `groups` answers (this project's own; the groups are the strongly connected components of a directed graph).
--
-- Read `AreGroups rows groups` as: each number of the table has an entry in groups; two numbers have the same exactly where each
-- reaches the other, by way of the numbers that rows name; and a number mentions those of its own or a lower group alone.
use Rattle.std.specs.Prelude.{◌≡◌, ◌↔◌, ℕ, ◌<◌, ◌≤◌, List, [], length, slice_get, slice_index_or, Some}
use Rattle.ps_typing.specs.Order.{Mentions, Together, graph_of_table}

-- the row of a number
abbrev pub row : List (List ℕ) → ℕ → List ℕ
row rows d = slice_index_or rows d []

-- each row names numbers of the table
pub record IsTable (rows : List (List ℕ)) : Type 0 where
  pub closed : (d i e : ℕ) → slice_get (row rows d) i ≡ Some e → e < length rows

abbrev pub group_of : List ℕ → ℕ → ℕ
group_of groups d = slice_index_or groups d 0

pub record AreGroups (rows : List (List ℕ)) (groups : List ℕ) : Type 0 where
  pub all : length groups ≡ length rows
  pub together : (d e : ℕ) → d < length rows → e < length rows
      → (group_of groups d ≡ group_of groups e) ↔ Together (graph_of_table rows) d e
  pub lower : (d e : ℕ) → d < length rows → Mentions (graph_of_table rows) d e → group_of groups e ≤ group_of groups d
