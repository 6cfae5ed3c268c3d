-- Where a search through a graph stands (this project's own, after Gabow): what its functions promise each other. No public clause
-- cites this file.
--
-- Nodes that have no group stand in a stack, in the order in which the search came to them. The stack is cut into parts, each a
-- piece of it, whose nodes reach each other; whatever stands earlier reaches what stands later. So where the node on top mentions
-- one of the stack, all parts from that one on are one part. A part is a group where nothing more is to be looked at in it.
use Rattle.std.specs.Prelude.{◌≡◌, ℕ, suc, ◌+◌, ◌-◌, ◌*◌, ◌<◌, ◌≤◌, max, ◌==◌, if◌then◌else◌, List}
use Rattle.std.specs.Prelude.{[], ◌∷◌, ◌++◌, length, map, ◌⊎◌, Option, Some, None, slice_get, slice_set, slice_index_or, MatchBool}
use Rattle.ps_kernel.specs.Lists.{Among}
use Rattle.ps_typing.specs.Order.{Mentions, Reaches, graph_of_table}
use Rattle.ps_groups.specs.Groups.{row}
use Rattle.ps_groups.specs.declared.search.Mark.{Mark}
use Rattle.ps_groups.specs.declared.search.Mark.TheVariants.{New, Held, Done}
use Rattle.ps_groups.specs.declared.search.Frame.{Frame}
use Rattle.ps_groups.specs.declared.search.Search.{Search}

-- ---- lists

abbrev pub mark_at : List Mark → ℕ → Mark
mark_at marks d = slice_index_or marks d New

-- numbers ascend, from one on
abbrev pub Climbs : ℕ → List ℕ → Type 0
Climbs low [] = Unit {0}
Climbs low (x ∷ xs) = (low ≤ x) × Climbs (suc x) xs

abbrev pub last_of : List ℕ → Option ℕ
last_of [] = None
last_of (x ∷ []) = Some x
last_of (x ∷ y ∷ ys) = last_of (y ∷ ys)

abbrev pub places : List Frame → List ℕ
places frames = map (λ (f : Frame). f.place) frames

-- ---- steps

abbrev pub pushed : Frame → Search → Search
pushed f s = record s { frames = s.frames ++ f ∷ [] }

abbrev pub frame_at : ℕ → ℕ → Frame
frame_at place left = record { place = place; left = left }

-- the search came to a node
abbrev pub opened : List (List ℕ) → ℕ → Search → Search
opened rows d s = record s {
  marks = slice_set s.marks d (Held (length s.stack));
  stack = s.stack ++ d ∷ [];
  starts = s.starts ++ length s.stack ∷ [];
  frames = s.frames ++ frame_at (length s.stack) (length (row rows d)) ∷ [];
}

abbrev pub entry_of : List (List ℕ) → Option ℕ → ℕ → Option ℕ
entry_of rows None i = None
entry_of rows (Some d) i = slice_get (row rows d) i

-- the node that a frame looks at next
abbrev pub edge_of : List (List ℕ) → List ℕ → Frame → Option ℕ
edge_of rows stack f = if f.left == 0 then None else entry_of rows (slice_get stack f.place) (f.left - 1)

-- parts that begin behind a place begin no more
pub record Contracted (place : ℕ) (old new : Search) : Type 0 where
  pub starts : List ℕ
  pub is : new ≡ record old { starts = starts }
  pub climbs : Climbs 0 starts
  pub kept : (x : ℕ) → Among x starts → Among x old.starts × (x ≤ place)
  pub keeps : (x : ℕ) → Among x old.starts → x ≤ place → Among x starts

-- while that is done
pub record Contracting (place : ℕ) (old now : Search) : Type 0 where
  pub starts : List ℕ
  pub is : now ≡ record old { starts = starts }
  pub climbs : Climbs 0 starts
  pub kept : (x : ℕ) → Among x starts → Among x old.starts
  pub keeps : (x : ℕ) → Among x old.starts → x ≤ place → Among x starts

abbrev pub AfterEdge : List (List ℕ) → ℕ → Search → Search → Mark → Type 0
AfterEdge rows d old new New = new ≡ opened rows d old
AfterEdge rows d old new (Held place) = Contracted place old new
AfterEdge rows d old new (Done group) = new ≡ old

abbrev pub all_done : ℕ → List ℕ → List Mark → List Mark
all_done group [] marks = marks
all_done group (d ∷ ds) marks = slice_set (all_done group ds marks) d (Done group)

-- these were taken off the stack, and have a group
pub record Closed (group : ℕ) (old new : Search) : Type 0 where
  pub removed : List ℕ
  pub stack : old.stack ≡ new.stack ++ removed
  pub marks : new.marks ≡ all_done group removed old.marks
  pub order : length new.order ≡ length old.order + length removed
  pub starts : new.starts ≡ old.starts
  pub frames : new.frames ≡ old.frames

pub record Closes (place : ℕ) (old new : Search) : Type 0 where
  pub closed : Closed (length old.order) old new
  pub left : length new.stack ≡ place

pub record LeavesPart (place : ℕ) (old new : Search) : Type 0 where
  pub front : List ℕ
  pub is : old.starts ≡ front ++ place ∷ []
  pub closes : Closes place (record old { starts = front }) new

abbrev pub leaves_by : Option ℕ → ℕ → Search → Search → Type 0
leaves_by None place old new = new ≡ old
leaves_by (Some start) place old new = MatchBool (start == place) (LeavesPart place old new) (new ≡ old)

abbrev pub Leaves : ℕ → Search → Search → Type 0
Leaves place old new = leaves_by (last_of old.starts) place old new

-- ---- what holds at each turn

-- no part begins behind p and up to q
pub record OnePart (starts : List ℕ) (p q : ℕ) : Type 0 where
  pub none : (x : ℕ) → Among x starts → p < x → x ≤ q → ⊥

-- a frame at a place has still to look at entry i
pub record Pending (frames : List Frame) (place i : ℕ) : Type 0 where
  pub frame : Frame
  pub there : Among frame frames
  pub at : frame.place ≡ place
  pub left : i < frame.left

-- what is mentioned at a place has a group, or stands in the same part or later
abbrev pub is_seen : List ℕ → ℕ → Mark → Type 0
is_seen starts place New = ⊥
is_seen starts place (Held q) = OnePart starts q place
is_seen starts place (Done group) = Unit {0}

pub record Lower (marks : List Mark) (group d : ℕ) : Type 0 where
  pub group' : ℕ
  pub is : mark_at marks d ≡ Done group'
  pub low : group' ≤ group

-- Where the node of an edge that was just looked at is not seen yet, it is late.
pub record IsSearch (rows : List (List ℕ)) (late : Option ℕ) (s : Search) : Type 0 where
  pub long : length s.marks ≡ length rows
  pub stacked : (p d : ℕ) → slice_get s.stack p ≡ Some d → mark_at s.marks d ≡ Held p
  pub held : (p d : ℕ) → mark_at s.marks d ≡ Held p → slice_get s.stack p ≡ Some d
  pub forward : (p q d e : ℕ) → p ≤ q → slice_get s.stack p ≡ Some d → slice_get s.stack q ≡ Some e → Reaches (graph_of_table rows) d e
  pub back : (p q d e : ℕ) → p ≤ q → OnePart s.starts p q → slice_get s.stack p ≡ Some d → slice_get s.stack q ≡ Some e
      → Reaches (graph_of_table rows) e d
  pub climbs : Climbs 0 s.starts
  pub path : Climbs 0 (places s.frames)
  pub framed : (x : ℕ) → Among x s.starts → Among x (places s.frames)
  pub inside : (x : ℕ) → Among x (places s.frames) → x < length s.stack
  pub fits : (f : Frame) (d : ℕ) → Among f s.frames → slice_get s.stack f.place ≡ Some d → f.left ≤ length (row rows d)
  pub based : 0 < length s.stack → Among 0 s.starts
  pub edges : (p d i e : ℕ) → slice_get s.stack p ≡ Some d → slice_get (row rows d) i ≡ Some e
      → Pending s.frames p i ⊎ (is_seen s.starts p (mark_at s.marks e) ⊎ (late ≡ Some e))
  pub lower : (d group e : ℕ) → mark_at s.marks d ≡ Done group → Mentions (graph_of_table rows) d e → Lower s.marks group e
  pub connected : (d e group : ℕ) → mark_at s.marks d ≡ Done group → mark_at s.marks e ≡ Done group → Reaches (graph_of_table rows) d e
  pub below : (d group : ℕ) → mark_at s.marks d ≡ Done group → group < length s.order

-- ---- how much is left to do

abbrev pub new_ones : List Mark → ℕ
new_ones [] = 0
new_ones (New ∷ ms) = suc (new_ones ms)
new_ones (Held p ∷ ms) = new_ones ms
new_ones (Done group ∷ ms) = new_ones ms

abbrev pub widest : List (List ℕ) → ℕ
widest [] = 0
widest (r ∷ rs) = max (length r) (widest rs)

abbrev pub weigh : List Frame → ℕ
weigh [] = 0
weigh (f ∷ fs) = suc f.left + weigh fs

abbrev pub size : List (List ℕ) → Search → ℕ
size rows s = (widest rows + 2) * new_ones s.marks + weigh s.frames

-- what was met is met
pub record Grows (old new : List Mark) : Type 0 where
  pub met : (d : ℕ) → (mark_at old d ≡ New → ⊥) → mark_at new d ≡ New → ⊥

pub record Turns (rows : List (List ℕ)) (old new : Search) : Type 0 where
  pub is : IsSearch rows None new
  pub less : size rows new < size rows old
  pub grows : Grows old.marks new.marks

-- ---- between two searches

-- nothing is held, and each node below d has a group
pub record IsDoneBelow (rows : List (List ℕ)) (d : ℕ) (s : Search) : Type 0 where
  pub is : IsSearch rows None s
  pub frames : s.frames ≡ []
  pub met : (e : ℕ) → e < d → mark_at s.marks e ≡ New → ⊥

abbrev pub group_in : Mark → ℕ
group_in New = 0
group_in (Held place) = 0
group_in (Done group) = group
