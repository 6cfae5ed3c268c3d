-- A machine that refines another has at most so many frames more than that, where that has done no more.
-- For: refining_is_shallow
use Rattle.std.proofs.Common.{◌≡◌, ℕ, zero, suc, ◌+◌, ◌*◌, ◌-◌, ◌<◌, ◌≤◌, List, refl, sym, ap, ◌∙◌, subst, inl, inr, ⊎_elim, arith}
use Rattle.std.specs.Prelude.{◌⊎◌}
use Rattle.std.proofs.lemmas.Bool.{cases_lt}
use Rattle.byte_store.specs.declared.event.Event.{Event}
use Rattle.byte_store.specs.Outcome.{Outcome, Begins, IsUndefined}
use Rattle.byte_store.specs.Agree.{IsUndefinedWithin}
use Rattle.byte_store.specs.Machine.{Move, Goes, Ends, Machine, greater, outcome_at, after_move, run_from, OnlyAdds}
use Rattle.byte_store.specs.Refining.{StepsOn, Waits, StepsToEnd, Refines, RefiningShallow}
use Rattle.byte_store.proofs.GreaterIsLeast.{greater_le, greater_ge_left, greater_ge_right}
use Rattle.byte_store.proofs.MachinesKeepWhatTheyHave.{begins_run}
use Rattle.byte_store.proofs.StepsCompose.{short, past, ending, wide}

shrink : (top fuel m j k r r' : ℕ) → m ≡ suc j + k → r' ≤ top → (top + 1) * m + r ≤ suc fuel → (top + 1) * k + r' ≤ fuel
shrink top fuel m j k r r' e h le =
    let product : (top + 1) * m ≡ (top + 1) * (suc j + k) = ap (λ (i : ℕ). (top + 1) * i) e in
    omega arith

none : (top m r : ℕ) → (top + 1) * m + r ≤ 0 → m ≡ 0
none top m r h = omega arith

module _ {S T : Type 0} (more top : ℕ) (rank : S → ℕ) (M : Machine S) (N : Machine T) (R : S → T → Type 0) (ref : Refines more top rank M N R) where
  -- the second machine's run is not much deeper than one of the first with no more events
  record Low (c : ℕ) (s : S) (o : Outcome) : Type 0 where
    bound : ℕ
    is : ((o.depth ≤ (run_from M bound c s).depth + more) × Begins (run_from M bound c s).events o.events) ⊎ IsUndefinedWithin (run_from M bound c s) o.events

  same_begins : OnlyAdds N → (m d : ℕ) (s : S) (t : T) → R s t → Begins (M.events s) (run_from N m d t).events
  same_begins add m d s t r = subst (λ (l : List Event). Begins l (run_from N m d t).events) (ref.same s t r) (begins_run N add m d t)

  now_low : OnlyAdds N → (m c d : ℕ) (s : S) (t : T) → R s t → (run_from N m d t).depth ≤ greater c (M.frames s) + more → Low c s (run_from N m d t)
  now_low add m c d s t r h = record { bound = 0; is = inl (h, same_begins add m d s t r) }

  -- what holds after a step of the first machine
  low_after : (m c d : ℕ) (s s' : S) (o : Outcome) → M.step s ≡ Goes s' → Low (greater c (M.frames s)) s' o → Low c s o
  low_after m c d s s' o e l =
      let same : run_from M (suc l.bound) c s ≡ run_from M l.bound (greater c (M.frames s)) s' = ap (λ (v : Move S). after_move M v s (greater c (M.frames s)) (λ x u. run_from M l.bound x u)) e in
      record { bound = suc l.bound; is = subst (λ (x : Outcome). ((o.depth ≤ x.depth + more) × Begins x.events o.events) ⊎ IsUndefinedWithin x o.events) (sym same) l.is }

  low_move : OnlyAdds N → (fuel : ℕ) → ((m c d : ℕ) (s : S) (t : T) → (top + 1) * m + rank s ≤ fuel → R s t → d ≤ c + more → Low c s (run_from N m d t)) → (m c d : ℕ) (s : S) (t : T) (v : Move S) → (top + 1) * m + rank s ≤ suc fuel → R s t → d ≤ c + more → M.step s ≡ v → Low c s (run_from N m d t)
  low_move add fuel ih m c d s t (Goes s') le r low e =
      let top_frames = greater c (M.frames s) in
      let left = greater_ge_left c (M.frames s) in
      let right = greater_ge_right c (M.frames s) in
      ⊎_elim
      (λ (h : StepsOn N R (M.frames s + more) s' t).
      let path = wide N (M.frames s + more) (top_frames + more) (suc h.more_steps) t h.next (omega arith) h.steps in
      ⊎_elim
      (λ (lt : h.more_steps < m).
      let a = past N (top_frames + more) (suc h.more_steps) d t h.next path (omega arith) in
      let k = m - suc h.more_steps in
      let whole : suc h.more_steps + k ≡ m = omega arith in
      let less : (top + 1) * k + rank s' ≤ fuel = shrink top fuel m h.more_steps k (rank s) (rank s') (sym whole) (ref.ranked s' h.next h.related) le in
      let l = ih k top_frames a.0 s' h.next less h.related a.1 in
      low_after m c d s s' (run_from N m d t) e (subst (λ (o : Outcome). Low top_frames s' o) (sym (a.2 k) ∙ ap (λ (i : ℕ). run_from N i d t) whole) l))
      (λ (ge : m ≤ h.more_steps). now_low add m c d s t r (short N (top_frames + more) m h.more_steps d t h.next path ge (omega arith)))
      (cases_lt h.more_steps m))
      (λ (h : Waits R rank s s' t). low_after m c d s s' (run_from N m d t) e (ih m top_frames d s' t (omega (arith, h.falls)) h.related (omega arith)))
      (ref.goes s s' t r e)
  low_move add fuel ih m c d s t (Ends f) le r low e =
      let top_frames = greater c (M.frames s) in
      let left = greater_ge_left c (M.frames s) in
      let right = greater_ge_right c (M.frames s) in
      ⊎_elim
      (λ (h : StepsToEnd N (M.frames s + more) (M.events s) f t). now_low add m c d s t r (ending N (top_frames + more) m h.number d t h.last h.end (wide N (M.frames s + more) (top_frames + more) h.number t h.last (omega arith) h.steps) (omega (arith, h.within)) h.stops (omega arith)))
      (λ (u : IsUndefined f).
      let same : run_from M 1 c s ≡ outcome_at M s top_frames f = ap (λ (v : Move S). after_move M v s top_frames (λ x q. run_from M 0 x q)) e in
      record { bound = 1; is = inr (subst (λ (x : Outcome). IsUndefinedWithin x (run_from N m d t).events) (sym same) (record { ends = u; before = same_begins add m d s t r })) })
      (ref.ends s t f r e)

  low_zero : OnlyAdds N → (m c d : ℕ) (s : S) (t : T) → m ≡ 0 → R s t → d ≤ c + more → Low c s (run_from N m d t)
  low_zero add m c d s t z r low =
      let left = greater_ge_left c (M.frames s) in
      let right = greater_ge_right c (M.frames s) in
      let frames = ref.low s t r in
      now_low add m c d s t r (subst (λ (i : ℕ). (run_from N i d t).depth ≤ greater c (M.frames s) + more) (sym z) (greater_le d (N.frames t) (greater c (M.frames s) + more) (omega arith) (omega arith)))

  low_run : OnlyAdds N → (fuel m c d : ℕ) (s : S) (t : T) → (top + 1) * m + rank s ≤ fuel → R s t → d ≤ c + more → Low c s (run_from N m d t)
  low_run add zero m c d s t le r low = let z : m ≡ 0 = none top m (rank s) le in low_zero add m c d s t z r low
  low_run add (suc fuel) m c d s t le r low = low_move add fuel (low_run add fuel) m c d s t (M.step s) le r low refl

  -- a machine that refines another has at most so many frames more
  pub refining_shallow : RefiningShallow more top M N R
  refining_shallow add s t r = record {
    at = λ m.
        let l = low_run add ((top + 1) * m + rank s) m 0 0 s t (omega arith) r (omega arith) in
        (l.bound, l.is);
  }
