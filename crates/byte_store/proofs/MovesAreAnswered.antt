-- What is to be shown of a machine that refines another, state by state: that it answers each move.
-- For: each pass from machine to machine
use Rattle.std.proofs.Common.{◌≡◌, ℕ, suc, ◌≤◌, List, refl, subst, inl, inr}
use Rattle.std.specs.Prelude.{◌⊎◌}
use Rattle.byte_store.specs.declared.event.Event.{Event}
use Rattle.byte_store.specs.Outcome.{End, Returned, Running, Undefined, Stuck, Wrong, StoppedAtCells, IsUndefined}
use Rattle.byte_store.specs.Laws.{StandsFor}
use Rattle.byte_store.specs.Machine.{Move, Goes, Ends, Machine}
use Rattle.byte_store.specs.Refining.{StepsOn, Waits, StepsToEnd}

pub stands_self : (e : End) → StandsFor e e
stands_self (Returned i) = refl
stands_self Running = refl
stands_self (Undefined op place) = tt
stands_self (Stuck op) = tt
stands_self (Wrong place) = refl
stands_self StoppedAtCells = refl

module _ {S T : Type 0} (N : Machine T) (R : S → T → Type 0) (rank : S → ℕ) where
  -- what N does from t, with at most `most` frames, while the other machine, in s after these events, makes a move
  abbrev pub AnswersMove : ℕ → List Event → S → T → Move S → Type 0
  AnswersMove most events s t (Goes s') = StepsOn N R most s' t ⊎ Waits R rank s s' t
  AnswersMove most events s t (Ends e) = StepsToEnd N most events e t ⊎ IsUndefined e

  pub record Answers (most : ℕ) (events : List Event) (s : S) (t : T) (m : Move S) : Type 0 where
    pub by : AnswersMove most events s t m

  -- one step for one
  pub one_step : (most : ℕ) (events : List Event) (s s' : S) (t u : T) → N.frames t ≤ most → N.step t ≡ Goes u → R s' u → Answers most events s t (Goes s')
  one_step most events s s' t u low step r = record { by = inl (record { next = u; more_steps = 0; steps = (u, low, step, refl); related = r }) }

  -- an end for an end
  pub same_end : (most : ℕ) (s : S) (t : T) (e : End) → N.frames t ≤ most → N.step t ≡ Ends e → Answers most (N.events t) s t (Ends e)
  same_end most s t e low step = record { by = inl (record { last = t; number = 0; end = e; steps = refl; within = low; stops = step; stands = stands_self e; did = refl }) }

  -- a step in front
  pub step_more : (most : ℕ) (events : List Event) (s : S) (t u : T) (m : Move S) → N.frames t ≤ most → N.step t ≡ Goes u → Answers most events s u m → Answers most events s t m
  step_more most events s t u (Goes s') low step h = record { by = going h.by }
    where
      going : StepsOn N R most s' u ⊎ Waits R rank s s' u → StepsOn N R most s' t ⊎ Waits R rank s s' t
      going (inl k) = inl (record { next = k.next; more_steps = suc k.more_steps; steps = (u, low, step, k.steps); related = k.related })
      going (inr k) = inl (record { next = u; more_steps = 0; steps = (u, low, step, refl); related = k.related })
  step_more most events s t u (Ends e) low step h = record { by = ending h.by }
    where
      ending : StepsToEnd N most events e u ⊎ IsUndefined e → StepsToEnd N most events e t ⊎ IsUndefined e
      ending (inl k) =
          inl (record { last = k.last; number = suc k.number; end = k.end; steps = (u, low, step, k.steps); within = k.within; stops = k.stops; stands = k.stands; did = k.did })
      ending (inr k) = inr k

  -- the parts `goes` and `ends` of what refines
  pub answers_going : (most : ℕ) (events : List Event) (s s' : S) (t : T) (m : Move S) → Answers most events s t m → m ≡ Goes s' → StepsOn N R most s' t ⊎ Waits R rank s s' t
  answers_going most events s s' t m h is = (subst (λ x. Answers most events s t x) is h).by

  pub answers_ending : (most : ℕ) (events : List Event) (s : S) (t : T) (e : End) (m : Move S) → Answers most events s t m → m ≡ Ends e → StepsToEnd N most events e t ⊎ IsUndefined e
  answers_ending most events s t e m h is = (subst (λ x. Answers most events s t x) is h).by
