-- The nodes of comparisons, one comparison after another.
-- For: joined_counted
use Rattle.std.proofs.Common.{◌≡◌, ℕ, suc, ◌+◌, ◌-◌, ◌<◌, true, List, length, drop, drop-cons, sym, ap, subst, ◌∙◌, arith, Err}
use Rattle.ps_base.specs.declared.faults.Place.{Place}
use Rattle.ps_base.specs.declared.limits.Limits.{Limits}
use Rattle.ps_derived.specs.declared.types.Label.{Label}
use Rattle.ps_derived.specs.declared.types.Label.TheVariants as d
use Rattle.ps_scope.specs.Environments.{Env}
use Rattle.ps_hygiene.specs.Runs.{Step, Goes, Run, and_then}
use Rattle.ps_expansion.specs.Does.{Gives}
use Rattle.ps_expansion.specs.States.{State}
use Rattle.ps_expansion.specs.declared.expansion.Expansion.{Expansion}
use Rattle.ps_expansion.specs.declared.stop.Stop.{Stop}
use Rattle.ps_expansion.specs.declared.stop.Stop.TheVariants as stops
use Rattle.ps_bodies.specs.Branches.{join_counted, joined_counted}

in_turn : (limits : Limits) (left : ℕ) (at : Place) (rest : List Label) (i : ℕ) (s : State) → i < length rest
    → joined_counted limits left at (drop i rest) s
    ≡ and_then (join_counted limits left at s) (λ _. joined_counted limits (left - 1) at (drop (i + 1) rest))
in_turn limits left at rest i s lt =
    ap (λ (ls : List Label). joined_counted limits left at ls s) (drop-cons rest i (d.Boolean true) lt)
    ∙ ap (λ (j : ℕ). and_then (join_counted limits left at s) (λ _. joined_counted limits (left - 1) at (drop j rest)))
    (let e : suc i ≡ i + 1 = omega arith in e)

refused : (e : Stop) (want : Step State (Unit {0})) (f : Unit {0} → Run State (Unit {0})) (env env' : Env) (now new : Expansion)
    → Gives {A = Unit {0}} (Err e) want env now → Gives {A = Unit {0}} (Err e) (and_then want f) env' new
refused (stops.Fault fault) want f env env' now new h = record { wanted = ap (λ (w : Step State (Unit {0})). and_then w f) h.wanted }
refused stops.NoMemory want f env env' now new h = tt

-- one is refused, and with it all
pub one_refused : (limits : Limits) (left : ℕ) (at : Place) (rest : List Label) (i : ℕ) (s : State) (want : Step State (Unit {0}))
    (e : Stop) (env env' : Env) (now new : Expansion) → i < length rest
    → joined_counted limits left at (drop i rest) s ≡ want → Gives {A = Unit {0}} (Err e) (join_counted limits left at s) env now
    → Gives {A = Unit {0}} (Err e) want env' new
one_refused limits left at rest i s want e env env' now new lt inv h =
    subst (λ (w : Step State (Unit {0})). Gives {A = Unit {0}} (Err e) w env' new) (sym (in_turn limits left at rest i s lt) ∙ inv)
    (refused e (join_counted limits left at s) _ env env' now new h)

-- one is counted, and then those behind it
pub one_counted : (limits : Limits) (left less : ℕ) (at : Place) (rest : List Label) (i : ℕ) (s t : State) (want : Step State (Unit {0}))
    → i < length rest → less ≡ left - 1
    → joined_counted limits left at (drop i rest) s ≡ want → join_counted limits left at s ≡ Goes tt t
    → joined_counted limits less at (drop (i + 1) rest) t ≡ want
one_counted limits left less at rest i s t want lt is inv went =
    ap (λ (n : ℕ). joined_counted limits n at (drop (i + 1) rest) t) is
    ∙ sym (ap (λ (w : Step State (Unit {0})). and_then w (λ _. joined_counted limits (left - 1) at (drop (i + 1) rest))) went)
    ∙ sym (in_turn limits left at rest i s lt) ∙ inv
