-- The laws of the source's runs.
-- For: `larger_bound_keeps`, `calls_enter_procedures` and `program_is_sound`
use Rattle.std.proofs.Common.{◌≡◌, ℕ, ℤ, zero, suc, ◌+◌, [], refl, sym, ap, subst, arith}
use Rattle.byte_store.specs.Outcome.{Outcome, Returned, Running, Undefined, Stuck, Wrong, StoppedAtCells, Begins, IsSound}
use Rattle.byte_store.specs.Laws.{Grows}
use Rattle.byte_store.proofs.FrontsCompose.{begins_eq}
use Rattle.byte_store.proofs.FollowingAgrees.{growing_keeps}
use Rattle.ps_plain.specs.declared.program.Program.{Program}
use Rattle.ps_plain.specs.Run.{Step, Goes, Stops, stop}
use Rattle.ps_plain.specs.Meaning.{Enter, entering, enters, outcome, start, main_place, Source}
use Rattle.ps_plain.specs.Laws.{CallsEnterProcedures, LargerBoundKeeps, ProgramIsSound}
use Rattle.ps_plain.proofs.Related.{Enters, body_related}
use Rattle.ps_plain.proofs.Same.{Same, known_same, at_depth_same, take_call_same, then_same, looser, same_keeps}
use Rattle.ps_plain.proofs.Sound.{SoundStep, Any}
use Rattle.ps_plain.proofs.Soundness.{enters_sound}
use Rattle.ps_plain.proofs.Longer.{longer_keeps, events_of, Extends, Longer, stop_longer, running_longer, known_longer, at_depth_longer, take_call_longer, then_longer}

-- ---- a larger bound

-- entering a procedure by g does with d calls more what entering by f does
abbrev Longers : ℕ → Enter → Enter → Type 0
Longers d = Enters (λ A p q. Longer d p q)

entering_longer : (p : Program) (d : ℕ) (f g : Enter) → Longers d f g → Longers d (entering p f) (entering p g)
entering_longer p d f g enter = record {
  by = λ at depth n vs.
      then_longer d (known_longer d _ _) (λ q. then_longer d (take_call_longer d) (λ u. then_longer d (at_depth_longer d depth) (λ v. body_related (λ A p q. Longer d p q) (longer_keeps d) f g enter depth vs q)));
}

-- no procedure may be entered
abbrev none : Enter
none at depth n vs = stop Running

none_longer : (d : ℕ) → Longers d none none
none_longer d = record { by = λ at depth n vs. stop_longer d Running }

-- whatever enters procedures and only adds events is longer than what enters none
after_none : (d : ℕ) (f g : Enter) → Longers d f g → Longers d none g
after_none d f g l = record { by = λ at depth n vs. running_longer d (l.by at depth n vs) }

enters_longer : (p : Program) (n : ℕ) → Longers 1 (enters p n) (enters p (suc n))
enters_longer p zero = entering_longer p 1 none (enters p zero) (after_none 1 _ _ (entering_longer p 1 none none (none_longer 1)))
enters_longer p (suc n) = entering_longer p 1 (enters p n) (enters p (suc n)) (enters_longer p n)

-- ---- the bound on nesting

-- entering a procedure by g does what entering by f does, where fewer than k procedures may still be entered
abbrev Sames : ℕ → Enter → Enter → Type 0
Sames k = Enters (Same k k)

entering_same : (p : Program) (k : ℕ) (f g : Enter) → Sames k f g → Sames (suc k) (entering p f) (entering p g)
entering_same p k f g enter = record {
  by = λ at depth n vs.
      then_same (suc k) (suc k) (suc k) (known_same (suc k) _ _) (λ q. looser (suc k) k (suc k) (omega arith)
      (then_same (suc k) k k (take_call_same k) (λ u. then_same k k k (at_depth_same k depth) (λ v. body_related (Same k k) (same_keeps k) f g enter depth vs q))));
}

-- no state has fewer than none left
same_at_none : (f g : Enter) → Sames 0 f g
same_at_none f g = record { by = λ at depth n vs. record { is = λ s few. absurd (omega arith); leaves = λ s few. absurd (omega arith) } }

enters_same : (p : Program) (n : ℕ) → Sames (suc n) (enters p n) (enters p (suc n))
enters_same p zero = entering_same p 0 none (enters p zero) (same_at_none none (enters p zero))
enters_same p (suc n) = entering_same p (suc n) (enters p n) (enters p (suc n)) (enters_same p n)

pub unrolled : CallsEnterProcedures
unrolled p n at depth f vs s few = ((enters_same p n).by at depth f vs).is s (omega arith)

-- ---- outcomes

events_shown : (r : Step ℤ) → (outcome r).events ≡ events_of r
events_shown (Goes i s) = refl
events_shown (Stops e s) = refl

-- a longer run's outcome has grown
over : (o p : Outcome) → p ≡ o → Grows o p
over o p e = record { stays = λ h. e; adds = begins_eq _ _ (ap (λ (x : Outcome). x.events) (sym e)) }

grown : (d : ℕ) (r r' : Step ℤ) → Extends d r r' → Grows (outcome r) (outcome r')
grown d (Goes i s) r' e = over _ _ (ap outcome e)
grown d (Stops Running s) r' e = record { stays = λ h. absurd (h refl); adds = subst (Begins s.events) (sym (events_shown r')) e }
grown d (Stops (Returned i) s) r' e = over _ _ (ap outcome e)
grown d (Stops (Undefined op at) s) r' e = over _ _ (ap outcome e)
grown d (Stops (Stuck op) s) r' e = over _ _ (ap outcome e)
grown d (Stops (Wrong at) s) r' e = over _ _ (ap outcome e)
grown d (Stops StoppedAtCells s) r' e = over _ _ (ap outcome e)

pub larger_bound : LargerBoundKeeps
larger_bound p w = growing_keeps (Source p w) (λ n.
    let one : suc n ≡ n + 1 = omega arith in
    subst (λ m. Grows (Source p w n) (outcome (enters p m (main_place p) 0 0 [] (start (n + 1) w)))) one (grown 1 _ _ (((enters_longer p n).by (main_place p) 0 0 []).extends (start n w))))

-- ---- no end is Wrong or out of cells

shown_sound : (r : Step ℤ) → SoundStep Any r → IsSound (outcome r).end
shown_sound (Goes i s) h = tt
shown_sound (Stops e s) h = h

pub sound : ProgramIsSound
sound p w is_valid n = shown_sound _ (((enters_sound p is_valid n).by (main_place p) 0 0 [] is_valid.main).ends (start n w))
