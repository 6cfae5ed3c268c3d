-- One part of an expansion and then another.
-- For: every function whose answer is what a run gives, here and in the crates above
use Rattle.std.proofs.Common.{◌≡◌, ap, sym, subst, Err, Result, Option, Some, None}
use Rattle.ps_base.specs.declared.faults.FormKind.{FormKind}
use Rattle.ps_base.specs.declared.faults.FormKind.TheVariants.{BadForm}
use Rattle.ps_base.specs.declared.faults.Fault.TheVariants as faults
use Rattle.ps_base.specs.declared.faults.Place.{Place}
use Rattle.ps_base.specs.declared.faults.Refusal.{Refusal}
use Rattle.ps_base.specs.declared.faults.Refusal.TheVariants as refusals
use Rattle.ps_derived.specs.Parts.{Answers}
use Rattle.ps_scope.specs.Environments.{Env}
use Rattle.ps_hygiene.specs.Runs.{Step, Goes, Stops, Run, and_then, known}
use Rattle.ps_expansion.specs.Does.{Gives, Gives_by, state_of, stop_of}
use Rattle.ps_expansion.specs.States.{State}
use Rattle.ps_expansion.specs.declared.expansion.Expansion.{Expansion}
use Rattle.ps_expansion.specs.declared.stop.Stop.{Stop}
use Rattle.ps_expansion.specs.declared.stop.Stop.TheVariants as stops

-- where the first part stops, both stop
pub failed : {A B : Type 0} (e : Stop) (p : Step State A) (f : A → Run State B) (env env' : Env) (now now' : Expansion) → Gives {A = A} (Err e) p env now → Gives {A = B} (Err e) (and_then p f) env' now'
failed (stops.Fault fault) p f env env' now now' h = record { wanted = ap (λ w. and_then w f) h.wanted }
failed stops.NoMemory p f env env' now now' h = tt

-- the same, where the first part is told in other words
pub failed_by : {A B C : Type 0} (see : C → A) (e : Stop) (p : Step State A) (f : A → Run State B) (env env' : Env) (now now' : Expansion) → Gives_by {A = C} see (Err e) p env now → Gives {A = B} (Err e) (and_then p f) env' now'
failed_by see (stops.Fault fault) p f env env' now now' h = record { wanted = ap (λ w. and_then w f) h.wanted }
failed_by see stops.NoMemory p f env env' now now' h = tt

-- where it goes on, what counts is the rest
pub went : {A B : Type 0} (r : Result B Stop) (p : Step State A) (f : A → Run State B) (a : A) (s : State) (env : Env) (now : Expansion) → p ≡ Goes a s → Gives r (f a s) env now → Gives r (and_then p f) env now
went r p f a s env now e h = subst (λ w. Gives r (and_then w f) env now) (sym e) h

-- what there is, or the fault
pub known_goes : {A : Type 0} (kind : FormKind) (at : Place) (want : Option A) (a : A) (s : State) → want ≡ Some a → known kind at want s ≡ Goes a s
known_goes kind at want a s e = ap (λ w. known kind at w s) e

pub known_stops : {A : Type 0} (kind : FormKind) (at : Place) (want : Option A) (s : State) → want ≡ None → known {A = A} kind at want s ≡ Stops (faults.Form kind at)
known_stops kind at want s e = ap (λ w. known kind at w s) e

-- the same of what a special form was taken apart to
pub told : {A B : Type 0} (see : A → B) (at : Place) (want : Option B) (e : Refusal) (now : Expansion) (env : Env) → Answers see at want (Err e) → Gives_by see (Err (stop_of e)) (known BadForm at want (state_of now)) env now
told see at want (refusals.Fault fault) now env h = rw h.1 (record { wanted = known_stops BadForm at want (state_of now) h.0 })
told see at want refusals.NoMemory now env h = tt
