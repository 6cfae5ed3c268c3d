-- A machine that refines another follows it, also where it waits.
-- For: refining_follows
use Rattle.std.proofs.Common.{◌≡◌, ℕ, zero, suc, ◌+◌, ◌*◌, ◌≤◌, refl, sym, ap, ◌∙◌, subst, ⊎_elim, arith}
use Rattle.byte_store.specs.Outcome.{Outcome, End, Returned, Running, Undefined, Stuck, Wrong, StoppedAtCells, IsUndefined}
use Rattle.byte_store.specs.Laws.{Matches, StandsFor}
use Rattle.byte_store.specs.Machine.{Move, Goes, Ends, Machine, greater, outcome_at, after_move, run_from}
use Rattle.byte_store.specs.Refining.{StepsOn, Waits, StepsToEnd, Refines, RefiningFollows}
use Rattle.byte_store.proofs.StepsCompose.{after_steps, plain}

undefined_stands : (e f : End) → IsUndefined e → StandsFor e f
undefined_stands (Returned r) f u = absurd u
undefined_stands Running f u = absurd u
undefined_stands (Undefined op place) f u = tt
undefined_stands (Stuck op) f u = tt
undefined_stands (Wrong place) f u = absurd u
undefined_stands StoppedAtCells f u = absurd u

grow : (top n j b r r' : ℕ) → n ≤ (top + 1) * b + r' → r' ≤ top → suc n ≤ (top + 1) * (suc j + b) + r
grow top n j b r r' h k = omega arith

enough_at_end : (top n j r : ℕ) → suc n ≤ (top + 1) * (j + suc n) + r
enough_at_end top n j r = omega arith

module _ {S T : Type 0} (more top : ℕ) (rank : S → ℕ) (M : Machine S) (N : Machine T) (R : S → T → Type 0) (ref : Refines more top rank M N R) where
  -- the second machine's outcome, at a bound that is not less than the share
  record Followed (n d : ℕ) (s : S) (t : T) (o : Outcome) : Type 0 where
    bound : ℕ
    enough : o.end ≡ Running → n ≤ (top + 1) * bound + rank s
    matches : Matches o (run_from N bound d t)

  follow_move : (n : ℕ) → ((c d : ℕ) (s : S) (t : T) → R s t → Followed n d s t (run_from M n c s)) → (c d : ℕ) (s : S) (t : T) (v : Move S) → R s t → M.step s ≡ v → Followed (suc n) d s t (after_move M v s c (λ x u. run_from M n x u))
  follow_move n ih c d s t (Goes s') r e =
      ⊎_elim
      (λ (h : StepsOn N R (M.frames s + more) s' t).
      let a = after_steps N (suc h.more_steps) d t h.next (plain N (M.frames s + more) (suc h.more_steps) t h.next h.steps) in
      let k = ih c a.0 s' h.next h.related in
      record { bound = suc h.more_steps + k.bound; enough = λ q. grow top n h.more_steps k.bound (rank s) (rank s') (k.enough q) (ref.ranked s' h.next h.related); matches = subst (λ (o : Outcome). Matches (run_from M n c s') o) (sym (a.1 k.bound)) k.matches })
      (λ (h : Waits R rank s s' t).
      let k = ih c d s' t h.related in
      record { bound = k.bound; enough = λ q. (let e = k.enough q in omega (arith, e, h.falls)); matches = k.matches })
      (ref.goes s s' t r e)
  follow_move n ih c d s t (Ends f) r e =
      ⊎_elim
      (λ (h : StepsToEnd N (M.frames s + more) (M.events s) f t).
      let a = after_steps N h.number d t h.last (plain N (M.frames s + more) h.number t h.last h.steps) in
      let last : run_from N (suc n) a.0 h.last ≡ outcome_at N h.last (greater a.0 (N.frames h.last)) h.end = ap (λ (v : Move T). after_move N v h.last (greater a.0 (N.frames h.last)) (λ x u. run_from N n x u)) h.stops in
      record { bound = h.number + suc n; enough = λ q. enough_at_end top n h.number (rank s); matches = subst (λ (o : Outcome). Matches (outcome_at M s c f) o) (sym (a.1 (suc n) ∙ last)) (record { did = h.did; ends = h.stands }) })
      (λ (u : IsUndefined f).
      record { bound = 0; enough = λ q. absurd (subst IsUndefined q u); matches = record { did = ref.same s t r; ends = undefined_stands f Running u } })
      (ref.ends s t f r e)

  follow_run : (n c d : ℕ) (s : S) (t : T) → R s t → Followed n d s t (run_from M n c s)
  follow_run zero c d s t r = record { bound = 0; enough = λ q. omega arith; matches = record { did = ref.same s t r; ends = refl } }
  follow_run (suc n) c d s t r = follow_move n (follow_run n) (greater c (M.frames s)) d s t (M.step s) r refl

  -- a machine that refines another follows it
  pub refining_follows : RefiningFollows more top M N R
  refining_follows s t r n =
      let k = follow_run n 0 0 s t r in
      let ranked = ref.ranked s t r in
      record { bound = k.bound; enough = λ h. (let e = k.enough h in omega (arith, e, ranked)); matches = k.matches }
