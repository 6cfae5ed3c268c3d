-- The table of rows behind environments (private; this project's own). Rows are numbered from 0 in the order in which they were
-- bound and are never removed; the trail of a row is its entry and those below it, the newest first. The live rows are a stack,
-- and each bucket has a chain through the live rows that are in it. Read `trail_at ts n` as: the entries from row n - 1 down, none
-- where n is 0; `oldest n es` as: the n oldest entries of es; `newest es b` as: how high the newest entry in bucket b stands,
-- counted from 1 at the oldest, or 0; `height es o w` as: the same of the newest entry of the word w by the owner o.
use Rattle.std.specs.Prelude.{ℕ, suc, ◌≡◌, ◌+◌, ◌*◌, ◌-◌, ◌%◌, ◌<◌, ◌≤◌, ◌==◌, List, [], ◌∷◌, ◌++◌, length, drop, slice_get, slice_index, Option, Some, None, if◌then◌else◌}
use Rattle.ps_pattern.specs.declared.binding.Binding.{Binding}
use Rattle.ps_scope.specs.Environments.{Entry, entry_of, word, is_of}
use Rattle.ps_scope.specs.declared.table.Row.{Row}
use Rattle.ps_scope.specs.declared.table.Slot.{Slot}

-- what a row says
abbrev pub entry : Row → Entry
entry r = entry_of r.owner (word r.name r.stamps) r.binding

abbrev pub or_none : Option (List Entry) → List Entry
or_none (Some es) = es
or_none None = []

abbrev pub trail_at : List (List Entry) → ℕ → List Entry
trail_at ts n = or_none (slice_get ts n)

-- trails, and behind them those of the rows that follow
abbrev pub grown : List (List Entry) → List Row → List (List Entry)
grown ts [] = ts
grown ts (r ∷ rs) = grown (ts ++ (entry r ∷ trail_at ts r.parent) ∷ []) rs

abbrev pub trails : List Row → List (List Entry)
trails rows = grown ([] ∷ []) rows

abbrev pub oldest : ℕ → List Entry → List Entry
oldest n es = drop (length es - n) es

abbrev pub latest : List ℕ → ℕ
latest [] = 0
latest (s ∷ stamps) = s

-- in which bucket a word of an owner is: told by the owner, the name and the latest stamp
abbrev pub bucket_of : ℕ → List ℕ → ℕ
bucket_of owner [] = 0
bucket_of owner (name ∷ stamps) = (name + latest stamps % 65536 * 40503 + owner % 65536 * 25717) % 65536

abbrev pub newest : List Entry → ℕ → ℕ
newest [] b = 0
newest (e ∷ es) b = if bucket_of e.owner e.word == b then suc (length es) else newest es b

abbrev pub height : List Entry → ℕ → List ℕ → ℕ
height [] owner w = 0
height (e ∷ es) owner w = if is_of owner w e then suc (length es) else height es owner w

-- what the newest entry says
abbrev pub first_binding : List Entry → Option Binding
first_binding [] = None
first_binding (e ∷ es) = Some e.binding

-- a row lies on an older one, or on none
pub record Lies (rows : List Row) (i : ℕ) (r : Row) : Type 0 where
  pub older : r.parent ≤ i
  pub trail : trail_at (trails rows) (suc i) ≡ entry r ∷ trail_at (trails rows) r.parent

pub record AreLaid (rows : List Row) : Type 0 where
  pub none : trail_at (trails rows) 0 ≡ []
  pub lies : (i : ℕ) (r : Row) → slice_get rows i ≡ Some r → Lies rows i r

-- a live row stands in the stack at its height, and its slot leads on in its bucket
pub record Stands (rows : List Row) (es : List Entry) (i : ℕ) (s : Slot) : Type 0 where
  pub row : Row
  pub is : slice_get rows s.row ≡ Some row
  pub trail : trail_at (trails rows) (suc s.row) ≡ oldest (suc i) es
  pub top : oldest (suc i) es ≡ entry row ∷ oldest i es
  pub next : s.next ≡ newest (oldest i es) (bucket_of row.owner (word row.name row.stamps))

-- the table is right for the entries that are live, the trail of a number
pub record Serves (rows : List Row) (live : List Slot) (heads : List ℕ) (n : ℕ) (es : List Entry) : Type 0 where
  pub laid : AreLaid rows
  pub within : n ≤ length rows
  pub many : length heads ≡ 65536
  pub count : length es ≡ length live
  pub firsts : (b : ℕ) → b < 65536 → slice_index heads b ≡ newest es b
  pub stand : (i : ℕ) (s : Slot) → slice_get live i ≡ Some s → Stands rows es i s

-- the entries that are live, and the trails of all rows
pub record Stacked : Type 0 where
  pub live : List Entry
  pub trails : List (List Entry)
