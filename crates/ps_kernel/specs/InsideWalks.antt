-- How a walk over a text goes, step by step: what the functions of the walk promise each other.
use Rattle.std.specs.Prelude.{ℕ, ◌+◌, nat_lt, nat_le, ℤ, Bool, true, false, ◌&&◌, not, if◌then◌else◌, List, [], ◌∷◌, ◌++◌}
use Rattle.std.specs.Prelude.{Option, Some, None, slice_get, slice_set}
use Rattle.std.specs.List.{list_all}
use Rattle.std.specs.Ordering.{nat_cmp}
use Rattle.std.specs.Map.{lookup}
use Rattle.std.specs.BTreeMap.{insert_entry, is_at}
use Rattle.std.proofs.Math.ListN.{replicate}
use Rattle.ps_datum.specs.declared.datum.Datum.{Datum, out-Datum}
use Rattle.ps_datum.specs.declared.datum.DatumKind.{out-DatumKind}
use Rattle.ps_kernel.specs.declared.kernel.Kernel.{Kernel}
use Rattle.ps_kernel.specs.declared.validity.walk.Walk.{Walk}
use Rattle.ps_kernel.specs.Most.{most_nodes}
use Rattle.ps_kernel.specs.Rules.{has_number, has_operands, has_parts, has_labels, has_tail, has_level, is_among}
use Rattle.ps_kernel.specs.Valid.{is_stored, datum_depth, is_literal_kind}
use Rattle.ps_kernel.specs.Marks.{Mark, Node, Stands, BindsParameter, BindsLet, BindsEntry, Mentions, Sets}
use Rattle.ps_kernel.specs.declared.kernel.Lambda.{Lambda}
use Rattle.ps_kernel.specs.InsideSteps.{Step, Passes, Closes}

-- the value of an entry of a table
abbrev pub entry_of : List (ℕ × Bool) → ℕ → Option Bool
entry_of es x = lookup (is_at (nat_cmp x)) es

abbrev pub closed : List (ℕ × Bool) → ℕ → Option Bool → List (ℕ × Bool)
closed es x None = es
closed es x (Some b) = insert_entry nat_cmp es x false

abbrev pub is_none : Option Bool → Bool
is_none None = true
is_none (Some b) = false

abbrev pub is_some_true : Option Bool → Bool
is_some_true None = false
is_some_true (Some b) = b

abbrev pub is_some_false : Option Bool → Bool
is_some_false None = false
is_some_false (Some b) = not b

-- ---- flags

abbrev pub stand : List Bool → ℕ → List Bool
stand flags l = slice_set flags l true

-- whether each number in turn has a flag that is not set yet
abbrev pub meets : List Bool → List ℕ → Bool
meets flags [] = true
meets flags (l ∷ ls) = is_some_false (slice_get flags l) && meets (stand flags l) ls

-- ---- literals

-- a part of a literal that is at most so deep
abbrev pub is_stored_within : ℕ → Datum → Bool
is_stored_within n d = is_stored d && nat_le (datum_depth d) n

abbrev pub is_literal : Datum → Bool
is_literal d = is_literal_kind (out-DatumKind (out-Datum d).kind)

-- ---- labels

-- none of some labels stands again among them or among those behind them
abbrev pub differ_before : List ℤ → List ℤ → Bool
differ_before [] more = true
differ_before (l ∷ ls) more = not (is_among l (ls ++ more)) && differ_before ls more

-- ---- tables of numbers

abbrev pub put : List (ℕ × Bool) → ℕ → List (ℕ × Bool)
put t x = insert_entry nat_cmp t x true

-- a table has none of these
abbrev pub has_none : List (ℕ × Bool) → List ℕ → Bool
has_none t ys = list_all (λ y. is_none (entry_of t y)) ys

abbrev pub keeps_none : List (ℕ × Bool) → List Lambda → Bool
keeps_none t ms = list_all (λ (m : Lambda). has_none t m.captured) ms

-- ---- a walk

-- a walk that has met nothing, where there are n lambdas
abbrev pub starts : ℕ → Walk
starts n = record { right = true; nodes = 0; stands = replicate n false; locals = []; assigned = []; entries = [] }

abbrev pub stopped : Walk → Walk
stopped s = record s { right = false }

-- a walk over a mark that is right or not
unfoldable pub checked : Bool → Walk → Walk
checked b s = if s.right then (if b then s else stopped s) else s

module _ (k : Kernel) where
  -- what is right of a mark alone
  abbrev pub is_right_alone : Mark → Bool
  is_right_alone m = has_number k m && (has_operands k m && (has_parts m && (has_labels m && (has_tail m && has_level m))))

  -- whether a walk may go on over a mark
  abbrev pub may_pass : Walk → Mark → Bool
  may_pass s (Node at) = nat_lt s.nodes most_nodes
  may_pass s (Stands l g) = is_some_false (slice_get s.stands l)
  may_pass s (BindsParameter x) = is_none (entry_of s.locals x)
  may_pass s (BindsLet x) = is_none (entry_of s.locals x)
  may_pass s (BindsEntry e) = is_none (entry_of s.locals e.local)
  may_pass s (Mentions x scope) = is_some_true (entry_of s.locals x)
  may_pass s (Sets x scope) = is_some_true (entry_of s.locals x)
  may_pass s m = is_right_alone m

  abbrev pub may : Walk → Step → Bool
  may s (Passes m) = may_pass s m
  may s (Closes x) = true

  -- the walk behind a mark
  abbrev pub behind_mark : Walk → Mark → Walk
  behind_mark s (Node at) = record s { nodes = s.nodes + 1 }
  behind_mark s (Stands l g) = record s { stands = stand s.stands l }
  behind_mark s (BindsParameter x) = record s { locals = insert_entry nat_cmp s.locals x true }
  behind_mark s (BindsLet x) = record s { locals = insert_entry nat_cmp s.locals x true }
  behind_mark s (BindsEntry e) = record s { locals = insert_entry nat_cmp s.locals e.local true; entries = s.entries ++ (e.local ∷ []) }
  behind_mark s (Sets x scope) = record s { assigned = s.assigned ++ (x ∷ []) }
  behind_mark s m = s

  abbrev pub behind : Walk → Step → Walk
  behind s (Passes m) = behind_mark s m
  behind s (Closes x) = record s { locals = closed s.locals x (entry_of s.locals x) }

  -- a walk takes a step, unless it has stopped
  unfoldable pub step : Walk → Step → Walk
  step s m = if s.right then (if may s m then behind s m else stopped s) else s
