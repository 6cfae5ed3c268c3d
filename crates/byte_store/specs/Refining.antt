-- When one machine of small steps refines another (this project's own).
--
-- Read `Refines more top rank M N R` as 'while M does one step, N does one or more, or waits; so their states stay in the relation R,
-- and N has at most `more` frames more than M'. N waits where the rank of M's state falls, and no rank is above `top`; so N waits at most
-- so many times one after another. Where M is undefined, nothing is asked of N.
use Rattle.std.specs.Prelude.{◌≡◌, ℕ, zero, suc, ◌+◌, ◌<◌, ◌≤◌, ◌⊎◌, List}
use Rattle.byte_store.specs.declared.event.Event.{Event}
use Rattle.byte_store.specs.Outcome.{End, IsUndefined}
use Rattle.byte_store.specs.Laws.{StandsFor, FollowsAt, ShallowSoFar}
use Rattle.byte_store.specs.Machine.{Goes, Ends, Machine, machine_run, OnlyAdds}

-- j steps lead from s to t
abbrev pub Steps : {S : Type 0} → Machine S → ℕ → S → S → Type 0
Steps M zero s t = s ≡ t
Steps {S} M (suc j) s t = (u : S) × (M.step s ≡ Goes u) × Steps M j u t

-- the same, where each state but the last has at most `most` frames
abbrev pub StepsWithin : {S : Type 0} → Machine S → ℕ → ℕ → S → S → Type 0
StepsWithin M most zero s t = s ≡ t
StepsWithin {S} M most (suc j) s t = (u : S) × (M.frames s ≤ most) × (M.step s ≡ Goes u) × StepsWithin M most j u t

-- one step or more of the second machine, to a state that the relation has for the first one's next
pub record StepsOn {S T : Type 0} (N : Machine T) (R : S → T → Type 0) (most : ℕ) (s' : S) (t : T) : Type 0 where
  pub next : T
  pub more_steps : ℕ
  pub steps : StepsWithin N most (suc more_steps) t next
  pub related : R s' next

-- no step of the second machine, where the rank of the first one's state falls
pub record Waits {S T : Type 0} (R : S → T → Type 0) (rank : S → ℕ) (s s' : S) (t : T) : Type 0 where
  pub related : R s' t
  pub falls : rank s' < rank s

-- steps of the second machine, after which it ends so that its end stands for e, with these events
pub record StepsToEnd {T : Type 0} (N : Machine T) (most : ℕ) (events : List Event) (e : End) (t : T) : Type 0 where
  pub last : T
  pub number : ℕ
  pub end : End
  pub steps : StepsWithin N most number t last
  pub within : N.frames last ≤ most
  pub stops : N.step last ≡ Ends end
  pub stands : StandsFor e end
  pub did : N.events last ≡ events

pub record Refines {S T : Type 0} (more top : ℕ) (rank : S → ℕ) (M : Machine S) (N : Machine T) (R : S → T → Type 0) : Type 0 where
  pub same : (s : S) (t : T) → R s t → N.events t ≡ M.events s
  pub low : (s : S) (t : T) → R s t → N.frames t ≤ M.frames s + more
  pub ranked : (s : S) (t : T) → R s t → rank s ≤ top
  pub goes : (s s' : S) (t : T) → R s t → M.step s ≡ Goes s' → StepsOn N R (M.frames s + more) s' t ⊎ Waits R rank s s' t
  pub ends :
      (s : S) (t : T) (e : End) →
      R s t → M.step s ≡ Ends e → StepsToEnd N (M.frames s + more) (M.events s) e t ⊎ IsUndefined e

-- ---- the laws, of machines of which the second refines the first

module _ {S T : Type 0} (more top : ℕ) (M : Machine S) (N : Machine T) (R : S → T → Type 0) where
  -- the second follows the first
  abbrev pub RefiningFollows : Type 0
  RefiningFollows = (s : S) (t : T) → R s t → (n : ℕ) → FollowsAt top (machine_run M s) (machine_run N t) n

  -- and has at most so many frames more than the first, where that has done no more
  abbrev pub RefiningShallow : Type 0
  RefiningShallow = OnlyAdds N → (s : S) (t : T) → R s t → ShallowSoFar more (machine_run M s) (machine_run N t)
