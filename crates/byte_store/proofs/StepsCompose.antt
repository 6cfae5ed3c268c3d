-- After some steps a run goes on from their end, and is no deeper before than they are.
-- For: refining_follows, refining_is_shallow, and each pass from machine to machine
use Rattle.std.proofs.Common.{◌≡◌, ℕ, zero, suc, ◌+◌, ◌≤◌, refl, sym, ap, ◌∙◌, subst, arith}
use Rattle.byte_store.specs.Outcome.{End}
use Rattle.byte_store.specs.Machine.{Move, Goes, Ends, Machine, greater, after_move, run_from}
use Rattle.byte_store.specs.Refining.{Steps, StepsWithin}
use Rattle.byte_store.proofs.GreaterIsLeast.{greater_le}

module _ {S : Type 0} (M : Machine S) where
  -- the run goes on from the end of the steps
  pub after_steps : (j depth : ℕ) (s t : S) → Steps M j s t → (d : ℕ) × ((k : ℕ) → run_from M (j + k) depth s ≡ run_from M k d t)
  after_steps zero depth s t e = (depth, λ k. let z : 0 + k ≡ k = omega arith in ap (λ (n : ℕ). run_from M n depth s) z ∙ ap (λ (u : S). run_from M k depth u) e)
  after_steps (suc j) depth s t h =
      let rest = after_steps j (greater depth (M.frames s)) h.0 t h.2 in (
        rest.0,
        λ k.
            let z : suc j + k ≡ suc (j + k) = omega arith in
            ap (λ (n : ℕ). run_from M n depth s) z
            ∙ ap (λ (v : Move S). after_move M v s (greater depth (M.frames s)) (λ d u. run_from M (j + k) d u)) h.1
            ∙ rest.1 k,
      )

module _ {T : Type 0} (N : Machine T) where
  -- a run that has not gone past the steps
  pub short : (most m j depth : ℕ) (t t' : T) → StepsWithin N most (suc j) t t' → m ≤ j → depth ≤ most → (run_from N m depth t).depth ≤ most
  short most zero j depth t t' h le d = greater_le depth (N.frames t) most d h.1
  short most (suc m) zero depth t t' h le d = absurd (omega arith)
  short most (suc m) (suc j) depth t t' h le d =
      let rest = short most m j (greater depth (N.frames t)) h.0 t' h.3 (omega arith) (greater_le depth (N.frames t) most d h.1) in
      subst (λ (v : Move T). (after_move N v t (greater depth (N.frames t)) (λ x u. run_from N m x u)).depth ≤ most) (sym h.2) rest

  -- a run past the steps goes on from their end
  pub past : (most j depth : ℕ) (t t' : T) → StepsWithin N most j t t' → depth ≤ most → (d : ℕ) × (d ≤ most) × ((k : ℕ) → run_from N (j + k) depth t ≡ run_from N k d t')
  past most zero depth t t' h d = (depth, d, λ k. let z : 0 + k ≡ k = omega arith in ap (λ (n : ℕ). run_from N n depth t) z ∙ ap (λ (u : T). run_from N k depth u) h)
  past most (suc j) depth t t' h d =
      let rest = past most j (greater depth (N.frames t)) h.0 t' h.3 (greater_le depth (N.frames t) most d h.1) in (
        rest.0,
        rest.1,
        λ k.
            let z : suc j + k ≡ suc (j + k) = omega arith in
            ap (λ (n : ℕ). run_from N n depth t) z
            ∙ ap (λ (v : Move T). after_move N v t (greater depth (N.frames t)) (λ x u. run_from N (j + k) x u)) h.2
            ∙ rest.2 k,
      )

  -- a run whose steps end
  pub ending : (most m j depth : ℕ) (t t' : T) (f : End) → StepsWithin N most j t t' → N.frames t' ≤ most → N.step t' ≡ Ends f → depth ≤ most → (run_from N m depth t).depth ≤ most
  ending most zero zero depth t t' f h w s d = greater_le depth (N.frames t) most d (subst (λ (u : T). N.frames u ≤ most) (sym h) w)
  ending most (suc m) zero depth t t' f h w s d =
      let here : N.step t ≡ Ends f = ap (λ (u : T). N.step u) h ∙ s in
      let low = greater_le depth (N.frames t) most d (subst (λ (u : T). N.frames u ≤ most) (sym h) w) in
      subst (λ (v : Move T). (after_move N v t (greater depth (N.frames t)) (λ x u. run_from N m x u)).depth ≤ most) (sym here) low
  ending most zero (suc j) depth t t' f h w s d = greater_le depth (N.frames t) most d h.1
  ending most (suc m) (suc j) depth t t' f h w s d =
      let rest = ending most m j (greater depth (N.frames t)) h.0 t' f h.3 w s (greater_le depth (N.frames t) most d h.1) in
      subst (λ (v : Move T). (after_move N v t (greater depth (N.frames t)) (λ x u. run_from N m x u)).depth ≤ most) (sym h.2) rest

  -- the same steps, where more frames are allowed
  pub wide : (most more j : ℕ) (t t' : T) → most ≤ more → StepsWithin N most j t t' → StepsWithin N more j t t'
  wide most more zero t t' le h = h
  wide most more (suc j) t t' le h = (h.0, omega (arith, h.1), h.2, wide most more j h.0 t' le h.3)

  pub plain : (most j : ℕ) (t t' : T) → StepsWithin N most j t t' → Steps N j t t'
  plain most zero t t' h = h
  plain most (suc j) t t' h = (h.0, h.2, plain most j h.0 t' h.3)

  -- one step more, at the end
  pub then_step : (most j : ℕ) (s t u : T) → StepsWithin N most j s t → N.frames t ≤ most → N.step t ≡ Goes u → StepsWithin N most (suc j) s u
  then_step most zero s t u h low e = (u, subst (λ x. N.frames x ≤ most) (sym h) low, ap (λ x. N.step x) h ∙ e, refl)
  then_step most (suc j) s t u h low e = (h.0, h.1, h.2, then_step most j h.0 t u h.3 low e)

  -- steps one after another
  pub joined : (most i j : ℕ) (s t u : T) → StepsWithin N most i s t → StepsWithin N most j t u → StepsWithin N most (i + j) s u
  joined most zero j s t u h k = let z : 0 + j ≡ j = omega arith in subst (λ n. StepsWithin N most n s u) (sym z) (subst (λ x. StepsWithin N most j x u) (sym h) k)
  joined most (suc i) j s t u h k = let z : suc i + j ≡ suc (i + j) = omega arith in subst (λ n. StepsWithin N most n s u) (sym z) (h.0, h.1, h.2, joined most i j h.0 t u h.3 k)
