-- A machine of small steps, whatever its states are, and its runs (this project's own).
use Rattle.std.specs.Prelude.{◌≡◌, ℕ, zero, suc, List, nat_lt, cond}
use Rattle.byte_store.specs.declared.event.Event.{Event}
use Rattle.byte_store.specs.Outcome.{Outcome, Outcomes, End, Running, Begins}

-- what a step does
pub data Move (S : Type 0) : Type 0 where
  Goes : (next : S) → Move S
  Ends : (end : End) → Move S

-- one step from each state, the events of a state, and its number of frames
pub record Machine (S : Type 0) : Type 0 where
  pub step : S → Move S
  pub events : S → List Event
  pub frames : S → ℕ

-- the greater of two
abbrev pub greater : ℕ → ℕ → ℕ
greater a b = cond (nat_lt a b) b a

abbrev pub outcome_at : {S : Type 0} → Machine S → S → ℕ → End → Outcome
outcome_at M s depth e = record { events = M.events s; depth = depth; end = e }

abbrev pub after_move : {S : Type 0} → Machine S → Move S → S → ℕ → (ℕ → S → Outcome) → Outcome
after_move M (Goes next) s depth go = go depth next
after_move M (Ends e) s depth go = outcome_at M s depth e

-- at most n steps from a state, where `depth` is the greatest number of frames before
abbrev pub run_from : {S : Type 0} → Machine S → ℕ → ℕ → S → Outcome
run_from M zero depth s = outcome_at M s (greater depth (M.frames s)) Running
run_from M (suc n) depth s = after_move M (M.step s) s (greater depth (M.frames s)) (λ d t. run_from M n d t)

-- a machine's run from a state
abbrev pub machine_run : {S : Type 0} → Machine S → S → Outcomes
machine_run M s n = run_from M n 0 s

-- a step only adds events
pub record OnlyAdds {S : Type 0} (M : Machine S) : Type 0 where
  pub by : (s t : S) → M.step s ≡ Goes t → Begins (M.events s) (M.events t)
