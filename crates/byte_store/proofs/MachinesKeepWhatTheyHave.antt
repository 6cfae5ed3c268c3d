-- With a larger bound a machine of small steps keeps what it has, and is at least as deep.
-- For: the law of the machine of C on its bound
use Rattle.std.proofs.Common.{◌≡◌, ℕ, zero, suc, ◌+◌, ◌-◌, ◌≤◌, refl, subst, arith}
use Rattle.byte_store.specs.Outcome.{Outcome, Begins}
use Rattle.byte_store.specs.Agree.{KeepsWhatItHas}
use Rattle.byte_store.specs.Laws.{Grows, Deepens}
use Rattle.byte_store.specs.Machine.{Move, Goes, Ends, Machine, greater, after_move, run_from, machine_run, OnlyAdds}
use Rattle.byte_store.proofs.FrontsCompose.{begins_self, begins_trans}
use Rattle.byte_store.proofs.FollowingAgrees.{growing_keeps}
use Rattle.byte_store.proofs.GreaterIsLeast.{greater_ge_left}

module _ {S : Type 0} (M : Machine S) where
  begins_move : OnlyAdds M → (go : ℕ → S → Outcome) → ((d : ℕ) (t : S) → Begins (M.events t) (go d t).events) → (depth : ℕ) (s : S) (v : Move S) → M.step s ≡ v → Begins (M.events s) (after_move M v s depth go).events
  begins_move add go h depth s (Goes t) e = begins_trans _ _ _ (add.by s t e) (h depth t)
  begins_move add go h depth s (Ends f) e = begins_self (M.events s)

  -- a run begins with the events of its state
  pub begins_run : OnlyAdds M → (n depth : ℕ) (s : S) → Begins (M.events s) (run_from M n depth s).events
  begins_run add zero depth s = begins_self (M.events s)
  begins_run add (suc n) depth s = begins_move add (λ d t. run_from M n d t) (begins_run add n) (greater depth (M.frames s)) s (M.step s) refl

  grows_move : (f g : ℕ → S → Outcome) → ((d : ℕ) (t : S) → Grows (f d t) (g d t)) → (depth : ℕ) (s : S) (v : Move S) → Grows (after_move M v s depth f) (after_move M v s depth g)
  grows_move f g h depth s (Goes t) = h depth t
  grows_move f g h depth s (Ends e) = record { stays = λ q. refl; adds = begins_self (M.events s) }

  grows_run : OnlyAdds M → (n depth : ℕ) (s : S) → Grows (run_from M n depth s) (run_from M (suc n) depth s)
  grows_run add zero depth s = record { stays = λ h. absurd (h refl); adds = begins_run add 1 depth s }
  grows_run add (suc n) depth s = grows_move (λ d t. run_from M n d t) (λ d t. run_from M (suc n) d t) (grows_run add n) (greater depth (M.frames s)) s (M.step s)

  pub machine_keeps : OnlyAdds M → (s : S) → KeepsWhatItHas (machine_run M s)
  machine_keeps add s =
      growing_keeps (machine_run M s) (λ n. let e : suc n ≡ n + 1 = omega arith in subst (λ (m : ℕ). Grows (machine_run M s n) (machine_run M s m)) e (grows_run add n 0 s))

deeper_move : {S : Type 0} (M : Machine S) (f g : ℕ → S → Outcome) → ((d : ℕ) (t : S) → (f d t).depth ≤ (g d t).depth) → (depth : ℕ) (s : S) (v : Move S) → (after_move M v s depth f).depth ≤ (after_move M v s depth g).depth
deeper_move M f g h depth s (Goes t) = h depth t
deeper_move M f g h depth s (Ends e) = omega arith

from_move : {S : Type 0} (M : Machine S) (g : ℕ → S → Outcome) → ((d : ℕ) (t : S) → d ≤ (g d t).depth) → (depth : ℕ) (s : S) (v : Move S) → depth ≤ (after_move M v s depth g).depth
from_move M g h depth s (Goes t) = h depth t
from_move M g h depth s (Ends e) = omega arith

depth_from : {S : Type 0} (M : Machine S) (n depth : ℕ) (s : S) → depth ≤ (run_from M n depth s).depth
depth_from M zero depth s = greater_ge_left depth (M.frames s)
depth_from M (suc n) depth s =
    let h = from_move M (λ d t. run_from M n d t) (depth_from M n) (greater depth (M.frames s)) s (M.step s) in
    omega (arith, h, greater_ge_left depth (M.frames s))

deeper_run : {S : Type 0} (M : Machine S) (n depth : ℕ) (s : S) → (run_from M n depth s).depth ≤ (run_from M (suc n) depth s).depth
deeper_run M zero depth s = from_move M (λ d t. run_from M 0 d t) (depth_from M 0) (greater depth (M.frames s)) s (M.step s)
deeper_run M (suc n) depth s = deeper_move M (λ d t. run_from M n d t) (λ d t. run_from M (suc n) d t) (deeper_run M n) (greater depth (M.frames s)) s (M.step s)

deeper_by : {S : Type 0} (M : Machine S) (n k : ℕ) (s : S) → (machine_run M s n).depth ≤ (machine_run M s (k + n)).depth
deeper_by M n zero s = let e : n ≡ 0 + n = omega arith in subst (λ (i : ℕ). (machine_run M s n).depth ≤ (machine_run M s i).depth) e (omega arith)
deeper_by M n (suc k) s =
    let e : suc (k + n) ≡ suc k + n = omega arith in
    subst (λ (i : ℕ). (machine_run M s n).depth ≤ (machine_run M s i).depth) e (omega (arith, deeper_by M n k s, deeper_run M (k + n) 0 s))

pub machine_deepens : {S : Type 0} (M : Machine S) (s : S) → Deepens (machine_run M s)
machine_deepens M s = record { by = λ n m le. let e : m - n + n ≡ m = omega arith in subst (λ (i : ℕ). (machine_run M s n).depth ≤ (machine_run M s i).depth) e (deeper_by M n (m - n) s) }
