-- To agree is transitive, and the comparisons of depth compose.
-- For: agree_is_transitive, shallow_composes, shallow_so_far_composes, same_each_agrees
use Rattle.std.proofs.Common.{ℕ, ◌+◌, ◌≤◌, List, inl, inr, ⊎_elim, sym, subst, arith}
use Rattle.std.specs.Prelude.{◌⊎◌}
use Rattle.byte_store.specs.declared.event.Event.{Event}
use Rattle.byte_store.specs.Outcome.{Outcome, Outcomes, Begins}
use Rattle.byte_store.specs.Agree.{IsUndefinedWithin, IsReturned, DoesAll, DoesOnly, IsSameEach}
use Rattle.byte_store.specs.Laws.{AgreeIsTransitive, IsUndefinedOnlyAfter, ShallowComposes, ShallowSoFarComposes, SameEachAgrees}
use Rattle.byte_store.proofs.FrontsCompose.{begins_trans, comparable}

pub undefined_longer : (o : Outcome) (t u : List Event) → IsUndefinedWithin o t → Begins t u → IsUndefinedWithin o u
undefined_longer o t u h b = record { ends = h.ends; before = begins_trans o.events t u h.before b }

does_all_trans : (X Y Z : Outcomes) → DoesAll X Y → DoesAll Y Z → DoesAll X Z
does_all_trans X Y Z a b = record {
  returns = λ n value events h. let y = a.returns n value events h in b.returns y.0 value events y.1;
  performs = λ n. let y = a.performs n in let z = b.performs y.0 in (z.0, begins_trans _ _ _ y.1 z.1);
}

-- where Y is undefined within some events, X is
pub undefined_before : (X Y : Outcomes) (m : ℕ) (t : List Event) → DoesOnly X Y → IsUndefinedWithin (Y m) t → (n : ℕ) × IsUndefinedWithin (X n) t
undefined_before X Y m t a h = let x = a.undefined m h.ends in (x.0, undefined_longer (X x.0) (Y m).events t x.1 h.before)

-- where Y has performed t and X is undefined within what Y has, X has t or is undefined within t
front_of : (X : Outcomes) (n : ℕ) (t u : List Event) → Begins t u → IsUndefinedWithin (X n) u → (k : ℕ) × (Begins t (X k).events ⊎ IsUndefinedWithin (X k) t)
front_of X n t u b h =
    ⊎_elim
    (λ (l : Begins t (X n).events). (n, inl l))
    (λ (r : Begins (X n).events t). (n, inr (record { ends = h.ends; before = r })))
    (comparable t (X n).events u b h.before)

does_only_trans : (X Y Z : Outcomes) → DoesOnly X Y → DoesOnly Y Z → DoesOnly X Z
does_only_trans X Y Z a b = record {
  returns = λ m value events h.
      let y = b.returns m value events h in
      ⊎_elim
      (λ (r : IsReturned (Y y.0) value events). a.returns y.0 value events r)
      (λ (u : IsUndefinedWithin (Y y.0) events). let x = undefined_before X Y y.0 events a u in (x.0, inr x.1))
      y.1;
  performs = λ m.
      let t = (Z m).events in
      let y = b.performs m in
      ⊎_elim
      (λ (l : Begins t (Y y.0).events).
      let x = a.performs y.0 in
      ⊎_elim
      (λ (c : Begins (Y y.0).events (X x.0).events). (x.0, inl (begins_trans _ _ _ l c)))
      (λ (u : IsUndefinedWithin (X x.0) (Y y.0).events). front_of X x.0 t (Y y.0).events l u)
      x.1)
      (λ (u : IsUndefinedWithin (Y y.0) t). let x = undefined_before X Y y.0 t a u in (x.0, inr x.1))
      y.1;
  undefined = λ m h. let y = b.undefined m h in undefined_before X Y y.0 (Z m).events a y.1;
}

pub agree_trans : AgreeIsTransitive
agree_trans X Y Z a b = record { all = does_all_trans X Y Z a.all b.all; only = does_only_trans X Y Z a.only b.only }

-- X, where Y is undefined within some events
before_that : (X Y : Outcomes) (q : ℕ) (t : List Event) → IsUndefinedOnlyAfter X Y → IsUndefinedWithin (Y q) t → (n : ℕ) × IsUndefinedWithin (X n) t
before_that X Y q t only u = let x = only q u.ends in (x.0, undefined_longer (X x.0) (Y q).events t x.1 u.before)

pub shallow_trans : ShallowComposes
shallow_trans X Y Z above more only x y = record {
  at = λ m.
      let q = y.at m in
      ⊎_elim
      (λ (l : ((Z m).depth ≤ (Y q.0).depth + more) × Begins (Y q.0).events (Z m).events).
      let p = x.at q.0 in
      ⊎_elim
      (λ (d : (Y q.0).depth ≤ (X p.0).depth + above). (p.0, inl (omega (arith, l.0))))
      (λ (u : IsUndefinedWithin (X p.0) (Y q.0).events). (p.0, inr (undefined_longer (X p.0) (Y q.0).events (Z m).events u l.1)))
      p.1)
      (λ (u : IsUndefinedWithin (Y q.0) (Z m).events). let p = before_that X Y q.0 (Z m).events only u in (p.0, inr p.1))
      q.1;
}

pub shallow_so_far_trans : ShallowSoFarComposes
shallow_so_far_trans X Y Z above more only x y = record {
  at = λ m.
      let q = y.at m in
      ⊎_elim
      (λ (l : ((Z m).depth ≤ (Y q.0).depth + more) × Begins (Y q.0).events (Z m).events).
      let p = x.at q.0 in
      ⊎_elim
      (λ (d : ((Y q.0).depth ≤ (X p.0).depth + above) × Begins (X p.0).events (Y q.0).events). (p.0, inl (omega (arith, l.0, d.0), begins_trans _ _ _ d.1 l.1)))
      (λ (u : IsUndefinedWithin (X p.0) (Y q.0).events). (p.0, inr (undefined_longer (X p.0) (Y q.0).events (Z m).events u l.1)))
      p.1)
      (λ (u : IsUndefinedWithin (Y q.0) (Z m).events). let p = before_that X Y q.0 (Z m).events only u in (p.0, inr p.1))
      q.1;
}

-- a run that is the same for each bound may stand in the other's place
same_does_all : (X Y Z : Outcomes) → IsSameEach X Y → DoesAll Y Z → DoesAll X Z
same_does_all X Y Z same a = record {
  returns = λ n value events h. a.returns n value events (subst (λ o. IsReturned o value events) (same n) h);
  performs = λ n. let z = a.performs n in (z.0, subst (λ o. Begins o.events (Z z.0).events) (sym (same n)) z.1);
}

same_does_only : (X Y Z : Outcomes) → IsSameEach X Y → DoesOnly Y Z → DoesOnly X Z
same_does_only X Y Z same a = record {
  returns = λ m value events h. let y = a.returns m value events h in (y.0, subst (λ o. IsReturned o value events ⊎ IsUndefinedWithin o events) (sym (same y.0)) y.1);
  performs = λ m. let y = a.performs m in (y.0, subst (λ o. Begins (Z m).events o.events ⊎ IsUndefinedWithin o (Z m).events) (sym (same y.0)) y.1);
  undefined = λ m h. let y = a.undefined m h in (y.0, subst (λ o. IsUndefinedWithin o (Z m).events) (sym (same y.0)) y.1);
}

pub same_agrees : SameEachAgrees
same_agrees X Y Z above same agree shallow = (
  record { all = same_does_all X Y Z same agree.all; only = same_does_only X Y Z same agree.only },
  record { at = λ m. let y = shallow.at m in (y.0, subst (λ o. ((Z m).depth ≤ o.depth + above) ⊎ IsUndefinedWithin o (Z m).events) (sym (same y.0)) y.1) },
)
