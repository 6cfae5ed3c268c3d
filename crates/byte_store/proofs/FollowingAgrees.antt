-- A run that follows another step by step agrees with it.
-- For: following_gives_agree, following_gives_shallow, growing_keeps, agree_where_defined
use Rattle.std.proofs.Common.{◌≡◌, ℕ, ℤ, zero, suc, ◌+◌, ◌-◌, ◌*◌, ◌≤◌, refl, sym, ap, ◌∙◌, subst, inl, inr, ⊎_elim, arith}
use Rattle.std.specs.Prelude.{◌⊎◌, ◌≢◌, ◌<◌}
use Rattle.std.proofs.Math.Nat.{le_of_mul-le-mul_left}
use Rattle.std.proofs.lemmas.Bool.{cases_lt}
use Rattle.byte_store.specs.Outcome.{Outcome, Outcomes, End, Returned, Running, Begins, IsUndefined}
use Rattle.byte_store.specs.Agree.{IsUndefinedWithin, IsReturned, DoesAll, Agree, KeepsWhatItHas}
use Rattle.byte_store.specs.Laws.{Progresses, FollowsAt, StandsFor, FollowingGivesAgree, Grows, GrowingKeeps, Deepens, FollowsLow, FollowingGivesShallow, IsDefined, DoTheSame}
use Rattle.byte_store.proofs.FrontsCompose.{begins_self, begins_eq, begins_trans}
use Rattle.byte_store.proofs.ProgressAgrees.{is_running_or_not, progress, sound_over, events_grow}

module _ (share : ℕ) (X Y : Outcomes) (follows : (n : ℕ) → FollowsAt share X Y n) where
  following_does_all : DoesAll X Y
  following_does_all = record {
    returns = λ n value events h.
        let f = follows n in
        (f.bound, record { ends = subst (λ (e : End). StandsFor e (Y f.bound).end) h.ends f.matches.ends; did = f.matches.did ∙ h.did });
    performs = λ n. let f = follows n in (f.bound, begins_eq _ _ (sym f.matches.did));
  }

  following_progresses : (m : ℕ) → Progresses X Y m
  following_progresses m =
      let n = (share + 1) * (m + 1) in
      let f = follows n in
      record {
        by = (
          n,
          ⊎_elim
              (λ (r : (X n).end ≡ Running).
              let up : m + 1 ≤ f.bound + 1 = le_of_mul-le-mul_left (f.enough r) (omega arith) in
              inr (f.bound, omega (arith, up), subst (λ (e : End). StandsFor e (Y f.bound).end) r f.matches.ends, f.matches.did))
              (λ (o : (X n).end ≢ Running). inl o)
              (is_running_or_not (X n).end),
        );
      }

pub following_agrees : FollowingGivesAgree
following_agrees share X Y kx ky sound follows =
    let all = following_does_all share X Y follows in
    record { all = all; only = progress X Y kx ky sound all (following_progresses share X Y follows) }

grows_self : (o : Outcome) → Grows o o
grows_self o = record { stays = λ h. refl; adds = begins_self o.events }

grows_trans : (o p q : Outcome) → Grows o p → Grows p q → Grows o q
grows_trans o p q a b = record {
  stays = λ h. let e = a.stays h in b.stays (λ r. h (ap (λ (x : Outcome). x.end) (sym e) ∙ r)) ∙ e;
  adds = begins_trans _ _ _ a.adds b.adds;
}

grows_by : (X : Outcomes) → ((n : ℕ) → Grows (X n) (X (n + 1))) → (n k : ℕ) → Grows (X n) (X (n + k))
grows_by X g n zero = let e : n ≡ n + 0 = omega arith in subst (λ (m : ℕ). Grows (X n) (X m)) e (grows_self (X n))
grows_by X g n (suc k) =
    let e : n + k + 1 ≡ n + suc k = omega arith in
    subst (λ (m : ℕ). Grows (X n) (X m)) e (grows_trans _ _ _ (grows_by X g n k) (g (n + k)))

grows_to : (X : Outcomes) → ((n : ℕ) → Grows (X n) (X (n + 1))) → (n m : ℕ) → n ≤ m → Grows (X n) (X m)
grows_to X g n m le = let e : n + (m - n) ≡ m = omega arith in subst (λ (k : ℕ). Grows (X n) (X k)) e (grows_by X g n (m - n))

pub growing_keeps : GrowingKeeps
growing_keeps X g = record {
  keeps = λ n m le h. (grows_to X g n m le).stays h;
  extends = λ n m le r. (grows_to X g n m le).adds;
}

pub where_defined : (X Y : Outcomes) → Agree X Y → IsDefined X → DoTheSame X Y
where_defined X Y agree fine = record {
  returns = agree.all.returns;
  returns_only = λ m value events h.
      let n = agree.only.returns m value events h in
      (n.0, ⊎_elim (λ (r : IsReturned (X n.0) value events). r) (λ (u : IsUndefinedWithin (X n.0) events). absurd (fine n.0 u.ends)) n.1);
  performs = agree.all.performs;
  performs_only = λ m.
      let n = agree.only.performs m in
      (n.0, ⊎_elim (λ (r : Begins (Y m).events (X n.0).events). r) (λ (u : IsUndefinedWithin (X n.0) (Y m).events). absurd (fine n.0 u.ends)) n.1);
  defined = λ m h. let n = agree.only.undefined m h in fine n.0 n.1.ends;
}

module _ (share above : ℕ) (X Y : Outcomes) (ky : KeepsWhatItHas Y) (deep : Deepens Y) where
  -- the bound is not before m, or the run is over there
  shallow_by : (m n : ℕ) (f : FollowsLow share above X Y n) → (m ≤ f.follows.bound) ⊎ ((Y f.follows.bound).end ≢ Running) → (Y m).depth ≤ (X n).depth + above
  shallow_by m n f h =
      let low = f.low in
      ⊎_elim
      (λ (le : m ≤ f.follows.bound). omega (arith, deep.by m f.follows.bound le))
      (λ (over : (Y f.follows.bound).end ≢ Running).
      ⊎_elim
      (λ (lt : f.follows.bound < m). let same = ky.keeps f.follows.bound m (omega arith) over in subst (λ (o : Outcome). o.depth ≤ (X n).depth + above) (sym same) low)
      (λ (le : m ≤ f.follows.bound). omega (arith, deep.by m f.follows.bound le))
      (cases_lt f.follows.bound m))
      h

pub following_shallow : FollowingGivesShallow
following_shallow share above X Y ky deep sound follows = record {
  at = λ m.
      let n = (share + 1) * (m + 1) in
      let f = follows n in
      let b = f.follows.bound in
      let low = f.low in (
        n,
        ⊎_elim
            (λ (r : (X n).end ≡ Running).
            let up : m + 1 ≤ b + 1 = le_of_mul-le-mul_left (f.follows.enough r) (omega arith) in
            inl (shallow_by share above X Y ky deep m n f (inl (omega (arith, up)))))
            (λ (o : (X n).end ≢ Running).
            ⊎_elim
            (λ (x : (r : ℤ) × ((X n).end ≡ Returned r)).
            let ended : (Y b).end ≡ Returned x.0 = subst (λ (e : End). StandsFor e (Y b).end) x.1 f.follows.matches.ends in
            inl (shallow_by share above X Y ky deep m n f (inr (λ q. cc))))
            (λ (u : IsUndefined (X n).end).
            ⊎_elim
            (λ (lt : b < m). inr (record { ends = u; before = begins_trans _ _ _ (begins_eq _ _ (sym f.follows.matches.did)) (events_grow Y ky b m (omega arith)) }))
            (λ (le : m ≤ b). inl (omega (arith, deep.by m b le)))
            (cases_lt b m))
            (sound_over (X n).end (sound n) o))
            (is_running_or_not (X n).end),
      );
}
