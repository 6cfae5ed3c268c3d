-- The law of progress: a run that does all that another does, and goes on as long as it, does nothing else.
-- For: progress_gives_agree
use Rattle.std.proofs.Common.{◌≡◌, ℕ, ℤ, ◌≤◌, List, refl, sym, ap, ◌∙◌, subst, inl, inr, ⊎_elim, arith}
use Rattle.std.specs.Prelude.{◌⊎◌, ◌≢◌, ◌<◌}
use Rattle.std.proofs.lemmas.Bool.{cases_lt}
use Rattle.byte_store.specs.declared.event.Event.{Event}
use Rattle.byte_store.specs.Outcome.{Outcome, Outcomes, End, Returned, Running, Undefined, Stuck, Wrong, StoppedAtCells, IsUndefined, IsSound, Begins}
use Rattle.byte_store.specs.Agree.{IsUndefinedWithin, IsReturned, DoesAll, KeepsWhatItHas}
use Rattle.byte_store.specs.Laws.{Progresses, ProgressGivesAgree}
use Rattle.byte_store.proofs.FrontsCompose.{begins_eq, begins_trans, comparable}

-- an end is Running or not
pub is_running_or_not : (e : End) → (e ≡ Running) ⊎ (e ≢ Running)
is_running_or_not (Returned r) = inr (λ q. cc)
is_running_or_not Running = inl refl
is_running_or_not (Undefined op place) = inr (λ q. cc)
is_running_or_not (Stuck op) = inr (λ q. cc)
is_running_or_not (Wrong place) = inr (λ q. cc)
is_running_or_not StoppedAtCells = inr (λ q. cc)

undefined_not_running : (e : End) → IsUndefined e → e ≢ Running
undefined_not_running e u q = subst IsUndefined q u

undefined_not_returned : (e : End) (r : ℤ) → IsUndefined e → e ≡ Returned r → ⊥
undefined_not_returned e r u q = subst IsUndefined q u

-- a sound end that is not Running is a result or undefined
pub sound_over : (e : End) → IsSound e → e ≢ Running → ((r : ℤ) × (e ≡ Returned r)) ⊎ IsUndefined e
sound_over (Returned r) s h = inl (r, refl)
sound_over Running s h = absurd (h refl)
sound_over (Undefined op place) s h = inr tt
sound_over (Stuck op) s h = inr tt
sound_over (Wrong place) s h = absurd s
sound_over StoppedAtCells s h = absurd s

-- what a larger bound does to the events
pub events_grow : (X : Outcomes) → KeepsWhatItHas X → (n m : ℕ) → n ≤ m → Begins (X n).events (X m).events
events_grow X k n m le =
    ⊎_elim
    (λ (r : (X n).end ≡ Running). k.extends n m le r)
    (λ (o : (X n).end ≢ Running). begins_eq _ _ (ap (λ (x : Outcome). x.events) (sym (k.keeps n m le o))))
    (is_running_or_not (X n).end)

-- an outcome that is not Running has all events
pub events_all : (X : Outcomes) → KeepsWhatItHas X → (n m : ℕ) → (X m).end ≢ Running → Begins (X n).events (X m).events
events_all X k n m over =
    ⊎_elim
    (λ (lt : m < n). begins_eq _ _ (ap (λ (x : Outcome). x.events) (k.keeps m n (omega arith) over)))
    (λ (le : n ≤ m). events_grow X k n m le)
    (cases_lt m n)

-- two outcomes of a run that are not Running are one
pub one_end : (X : Outcomes) → KeepsWhatItHas X → (n m : ℕ) → (X n).end ≢ Running → (X m).end ≢ Running → X n ≡ X m
one_end X k n m a b =
    ⊎_elim
    (λ (lt : m < n). k.keeps m n (omega arith) b)
    (λ (le : n ≤ m). sym (k.keeps n m le a))
    (cases_lt m n)

-- the events at two bounds are fronts of one list
both_begin : (X : Outcomes) → KeepsWhatItHas X → (n m : ℕ) → Begins (X n).events (X m).events ⊎ Begins (X m).events (X n).events
both_begin X k n m =
    ⊎_elim
    (λ (lt : m < n). inr (events_grow X k m n (omega arith)))
    (λ (le : n ≤ m). inl (events_grow X k n m le))
    (cases_lt m n)

module _ (X Y : Outcomes) (kx : KeepsWhatItHas X) (ky : KeepsWhatItHas Y) (sound : (n : ℕ) → IsSound (X n).end) (all : DoesAll X Y) where
  -- where X is over, it has a result that Y has, or is undefined
  over_cases : (n : ℕ) → (X n).end ≢ Running → ((r : ℤ) × ((X n).end ≡ Returned r) × ((m : ℕ) × IsReturned (Y m) r (X n).events)) ⊎ IsUndefined (X n).end
  over_cases n over =
      ⊎_elim
      (λ (h : (r : ℤ) × ((X n).end ≡ Returned r)). inl (h.0, h.1, all.returns n h.0 (X n).events (record { ends = h.1; did = refl })))
      (λ (u : IsUndefined (X n).end). inr u)
      (sound_over (X n).end (sound n) over)

  -- a turn of Y that is over is not followed by one that is Running
  no_running : (m k : ℕ) → (Y m).end ≢ Running → m ≤ k → (Y k).end ≡ Running → ⊥
  no_running m k over le run = over (ap (λ (x : Outcome). x.end) (sym (ky.keeps m k le over)) ∙ run)

  returned_not_running : (o : Outcome) (r : ℤ) → o.end ≡ Returned r → o.end ≢ Running
  returned_not_running o r e q = cc

  -- where X is undefined and Y is over
  undefined_over : (n m : ℕ) → IsUndefined (X n).end → (Y m).end ≢ Running → IsUndefinedWithin (X n) (Y m).events
  undefined_over n m u over =
      let y = all.performs n in
      record { ends = u; before = begins_trans _ _ _ y.1 (events_all Y ky y.0 m over) }

  returns_back : (m : ℕ) (r : ℤ) (t : List Event) → IsReturned (Y m) r t → Progresses X Y m → (n : ℕ) × (IsReturned (X n) r t ⊎ IsUndefinedWithin (X n) t)
  returns_back m r t h p =
      let n = p.by.0 in
      let over = returned_not_running (Y m) r h.ends in
      ⊎_elim
      (λ (o : (X n).end ≢ Running).
      ⊎_elim
      (λ (x : (s : ℤ) × ((X n).end ≡ Returned s) × ((k : ℕ) × IsReturned (Y k) s (X n).events)).
      let k = x.2.0 in
      let same : Y k ≡ Y m = one_end Y ky k m (returned_not_running (Y k) x.0 x.2.1.ends) over in
      let ends : Returned x.0 ≡ Returned r = sym x.2.1.ends ∙ ap (λ (o : Outcome). o.end) same ∙ h.ends in
      let did : (X n).events ≡ t = sym x.2.1.did ∙ ap (λ (o : Outcome). o.events) same ∙ h.did in
      (n, inl (record { ends = x.1 ∙ ends; did = did })))
      (λ (u : IsUndefined (X n).end). (n, inr (subst (λ l. IsUndefinedWithin (X n) l) h.did (undefined_over n m u over))))
      (over_cases n o))
      (λ (r : (k : ℕ) × (m ≤ k) × ((Y k).end ≡ Running) × ((Y k).events ≡ (X n).events)). absurd (no_running m r.0 over r.1 r.2))
      p.by.1

  performs_back : (m : ℕ) → Progresses X Y m → (n : ℕ) × (Begins (Y m).events (X n).events ⊎ IsUndefinedWithin (X n) (Y m).events)
  performs_back m p =
      let n = p.by.0 in
      ⊎_elim
      (λ (o : (X n).end ≢ Running).
      ⊎_elim
      (λ (x : (s : ℤ) × ((X n).end ≡ Returned s) × ((k : ℕ) × IsReturned (Y k) s (X n).events)).
      let k = x.2.0 in
      let whole = events_all Y ky m k (returned_not_running (Y k) x.0 x.2.1.ends) in
      (n, inl (begins_trans _ _ _ whole (begins_eq _ _ x.2.1.did))))
      (λ (u : IsUndefined (X n).end).
      let y = all.performs n in
      ⊎_elim
      (λ (a : Begins (Y y.0).events (Y m).events). (n, inr (record { ends = u; before = begins_trans _ _ _ y.1 a })))
      (λ (b : Begins (Y m).events (Y y.0).events).
      ⊎_elim
      (λ (c : Begins (X n).events (Y m).events). (n, inr (record { ends = u; before = c })))
      (λ (d : Begins (Y m).events (X n).events). (n, inl d))
      (comparable (X n).events (Y m).events (Y y.0).events y.1 b))
      (both_begin Y ky y.0 m))
      (over_cases n o))
      (λ (r : (k : ℕ) × (m ≤ k) × ((Y k).end ≡ Running) × ((Y k).events ≡ (X n).events)).
      (n, inl (begins_trans _ _ _ (events_grow Y ky m r.0 r.1) (begins_eq _ _ r.3))))
      p.by.1

  undefined_back : (m : ℕ) → IsUndefined (Y m).end → Progresses X Y m → (n : ℕ) × IsUndefinedWithin (X n) (Y m).events
  undefined_back m h p =
      let n = p.by.0 in
      let over = undefined_not_running (Y m).end h in
      ⊎_elim
      (λ (o : (X n).end ≢ Running).
      ⊎_elim
      (λ (x : (s : ℤ) × ((X n).end ≡ Returned s) × ((k : ℕ) × IsReturned (Y k) s (X n).events)).
      let k = x.2.0 in
      let same : Y k ≡ Y m = one_end Y ky k m (returned_not_running (Y k) x.0 x.2.1.ends) over in
      absurd (undefined_not_returned (Y m).end x.0 h (ap (λ (o : Outcome). o.end) (sym same) ∙ x.2.1.ends)))
      (λ (u : IsUndefined (X n).end). (n, undefined_over n m u over))
      (over_cases n o))
      (λ (r : (k : ℕ) × (m ≤ k) × ((Y k).end ≡ Running) × ((Y k).events ≡ (X n).events)). absurd (no_running m r.0 over r.1 r.2))
      p.by.1

pub progress : ProgressGivesAgree
progress X Y kx ky sound all p = record {
  returns = λ m value events h. returns_back X Y kx ky sound all m value events h (p m);
  performs = λ m. performs_back X Y kx ky sound all m (p m);
  undefined = λ m h. undefined_back X Y kx ky sound all m h (p m);
}
