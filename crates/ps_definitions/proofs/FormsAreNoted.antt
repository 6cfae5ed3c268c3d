-- The first pass goes from form to form.
-- For: note_all
use Rattle.std.proofs.Common.{◌≡◌, ◌∙◌, ℕ, zero, suc, ◌<◌, refl, ap, sym, arith, Err, List, [], ◌∷◌}
use Rattle.ps_definitions.specs.Definitions.{Passing, first_pass, note_one, pass_on}
use Rattle.ps_definitions.specs.declared.first.Noted.{Noted}
use Rattle.ps_pattern.specs.declared.syntax.Syntax.{Syntax}
use Rattle.ps_scope.specs.Environments.{Env}
use Rattle.ps_hygiene.specs.Runs.{Step, Goes, Stops, and_then}
use Rattle.ps_expansion.specs.Does.{Gives, Gives_by}
use Rattle.ps_expansion.specs.States.{Task, State}
use Rattle.ps_expansion.specs.declared.expansion.Expansion.{Expansion}
use Rattle.ps_expansion.specs.declared.stop.Stop.{Stop}
use Rattle.ps_expansion.specs.declared.stop.Stop.TheVariants as stops

module _ (task : Task) (env : Env) (x : Passing) (s : State) where
  -- nothing is left
  pub ends : (m : ℕ) → x.forms ≡ [] → first_pass task env m x s ≡ Goes x.noted s
  unfolding first_pass
  ends zero e = refl
  ends (suc k) e = ap (λ fs. pass_on task env (first_pass task env k) x.noted fs s) e

  -- no step is left
  pub used_up : (m : ℕ) → m ≡ 0 → first_pass task env m x s ≡ Goes x.noted s
  unfolding first_pass
  used_up m e = ap (λ m. first_pass task env m x s) e

  -- one form was noted
  pub goes : (m k : ℕ) (f : Syntax) (fs : List Syntax) (y : Passing) (t : State) → m ≡ suc k → x.forms ≡ f ∷ fs → note_one task env x.noted f fs s ≡ Goes y t → first_pass task env m x s ≡ first_pass task env k y t
  unfolding first_pass
  goes m k f fs y t n e h =
      ap (λ m. first_pass task env m x s) n
      ∙ ap (λ fs. pass_on task env (first_pass task env k) x.noted fs s) e
      ∙ ap (λ w. and_then w (first_pass task env k)) h

  halts : (m : ℕ) (f : Syntax) (fs : List Syntax) (fault : _) → 0 < m → x.forms ≡ f ∷ fs → note_one task env x.noted f fs s ≡ Stops fault → first_pass task env m x s ≡ Stops fault
  unfolding first_pass
  halts zero f fs fault lt e h = absurd (omega arith)
  halts (suc k) f fs fault lt e h =
      ap (λ fs. pass_on task env (first_pass task env k) x.noted fs s) e
      ∙ ap (λ w. and_then w (first_pass task env k)) h

  -- a form has a fault
  pub stops_at : (m : ℕ) (f : Syntax) (fs : List Syntax) (e : Stop) (want : Step State (List Noted)) (see : Unit {0} → Passing) (now now' : Expansion) (env' : Env) → 0 < m → x.forms ≡ f ∷ fs → first_pass task env m x s ≡ want → Gives_by see (Err e) (note_one task env x.noted f fs s) env now → Gives {A = List Noted} (Err e) want env' now'
  stops_at m f fs (stops.Fault fault) want see now now' env' lt e w h = record { wanted = sym w ∙ halts m f fs fault lt e h.wanted }
  stops_at m f fs stops.NoMemory want see now now' env' lt e w h = tt
