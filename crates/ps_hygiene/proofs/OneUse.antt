-- One use of a macro, by what its transcription gives.
-- For: transcribed, accept
use Rattle.std.proofs.Common.{◌≡◌, ◌∙◌, ℕ, ◌-◌, ◌<◌, ap, sym, subst, arith, Bool, true, false, nat_le, Ok, Err, Result, Option, Some, None}
use Rattle.std.specs.Prelude.{if◌then◌else◌}
use Rattle.std.proofs.lemmas.Bool.Decides.{nat_tests, leb_tells}
use Rattle.ps_base.specs.declared.faults.Fault.TheVariants as faults
use Rattle.ps_base.specs.declared.faults.FormKind.TheVariants.{TooDeep}
use Rattle.ps_base.specs.declared.faults.Place.{Place}
use Rattle.ps_base.specs.declared.faults.Refusal.{Refusal}
use Rattle.ps_base.specs.declared.faults.Refusal.TheVariants as refusals
use Rattle.ps_base.specs.declared.limits.Limits.{Limits}
use Rattle.ps_pattern.specs.Filling.{size, taken}
use Rattle.ps_pattern.specs.Transcribing.{Transcribed}
use Rattle.ps_pattern.specs.declared.syntax.Syntax.{Syntax}
use Rattle.ps_pattern.specs.declared.transcription.PatternFault.{PatternFault}
use Rattle.ps_pattern.specs.declared.transcription.PatternFault.TheVariants as p
use Rattle.ps_scope.specs.Environments.{Env}
use Rattle.ps_hygiene.specs.Answers.{Seen, Gives}
use Rattle.ps_hygiene.specs.InsideSettling.{refused}
use Rattle.ps_hygiene.specs.Runs.{Step, Goes, Stops, and_then, stop}
use Rattle.ps_hygiene.specs.Transcriptions.{nesting, begun, accepted, nested, filled_by, transcribed}
use Rattle.ps_hygiene.specs.Worlds.{World}

-- what was taken from a room
taken_some : (n room left : ℕ) → taken (Some room) n ≡ Some left → (nat_le n room ≡ true) × (room - n ≡ left)
taken_some n room left e = grind (arith, nat_tests, leb_tells)

taken_none : (n room : ℕ) → taken (Some room) n ≡ None → nat_le n room ≡ false
taken_none n room e = grind (arith, nat_tests, leb_tells)

module _ (limits : Limits) (at : Place) (g : Syntax) (w : World) where
  abbrev wanted : Step World Syntax
  wanted = accepted limits at (Some (Some g)) w

  abbrev room_left : Bool → ℕ → Step World (Unit {0})
  room_left fits left = if fits then Goes tt (record w { room = left }) else Stops (faults.ExpansionSpent limits.transcribed)

  abbrev by_room : Bool → ℕ → Step World Syntax
  by_room fits left = and_then (room_left fits left) (λ _. nested limits at g)

  abbrev by_depth : ℕ → Bool → Step World Syntax
  by_depth left shallow = if shallow then Goes g (record w { room = left }) else stop TooDeep at (record w { room = left })

  pub too_large : taken (Some w.room) (size g) ≡ None → wanted ≡ Stops (faults.ExpansionSpent limits.transcribed)
  too_large e = ap (λ b. by_room b (w.room - size g)) (taken_none (size g) w.room e)

  module _ (left : ℕ) (e : taken (Some w.room) (size g) ≡ Some left) where
    in_room : wanted ≡ nested limits at g (record w { room = left })
    in_room = ap (λ b. by_room b (w.room - size g)) (taken_some (size g) w.room left e).0 ∙ ap (by_room true) (taken_some (size g) w.room left e).1

    pub fits : nat_le (nesting g) limits.depth ≡ true → wanted ≡ Goes g (record w { room = left })
    fits h = in_room ∙ ap (by_depth left) h

    pub too_deep : nat_le (nesting g) limits.depth ≡ false → wanted ≡ Stops (faults.Form TooDeep at)
    too_deep h = in_room ∙ ap (by_depth left) h

-- an answer of the same, told otherwise
pub told_so : (r : Result Syntax Refusal) (want want' : Step World Syntax) (env env' : Env) (now : Seen) → want ≡ want' → env ≡ env' → Gives r want env now → Gives r want' env' now
told_so r want want' env env' now e h t = subst (λ env. Gives r want' env now) h (subst (λ want. Gives r want env now) e t)

module _ (limits : Limits) (env : Env) (f : Syntax) (m stamp : ℕ) (w w' : World) (e : begun limits m w ≡ Goes stamp w') where
  once : (o : Option (Option Syntax)) → filled_by limits w' env f m stamp ≡ o → transcribed limits env f m w ≡ accepted limits f.place o w'
  unfolding transcribed
  once o h = ap (λ s. and_then s (λ stamp w. accepted limits f.place (filled_by limits w env f m stamp) w)) e ∙ ap (λ o. accepted limits f.place o w') h

  pub made : (g : Syntax) (r : Result Syntax Refusal) (env' : Env) (now : Seen) → env' ≡ env → Transcribed (filled_by limits w' env' f m stamp) w'.room (Ok g) → Gives r (accepted limits f.place (Some (Some g)) w') env' now → Gives r (transcribed limits env f m w) env now
  made g r env' now same h t = told_so r _ _ _ _ now (sym (once (Some (Some g)) (ap (λ env. filled_by limits w' env f m stamp) (sym same) ∙ h.0))) same t

  -- each refusal of a transcription is the fault that is wanted
  refusal : (fault : PatternFault) (now : Seen) → Transcribed (filled_by limits w' env f m stamp) w'.room (Err fault) → Gives {A = Syntax} (Err (refused limits.transcribed f.place fault)) (transcribed limits env f m w) env now
  refusal p.NoRule now h = record { wanted = once None h }
  refusal p.Uneven now h = record { wanted = once (Some None) h }
  refusal p.TooLarge now h = record { wanted = once (Some (Some h.0)) h.1 ∙ too_large limits f.place h.0 w' (no_room (size h.0) w'.room h.2) }
    where
      no_room : (n room : ℕ) → room < n → taken (Some room) n ≡ None
      no_room n room lt = grind (arith, nat_tests, leb_tells)
  refusal p.BadRules now h = tt
  refusal p.NoMemory now h = tt

  pub refused_so : (fault : PatternFault) (env' : Env) (now : Seen) → env' ≡ env → Transcribed (filled_by limits w' env' f m stamp) w'.room (Err fault) → Gives {A = Syntax} (Err (refused limits.transcribed f.place fault)) (transcribed limits env f m w) env now
  refused_so fault env' now same h = refusal fault now (subst (λ env. Transcribed (filled_by limits w' env f m stamp) w'.room (Err fault)) same h)

-- a transcription that does not begin
pub never_begun : (limits : Limits) (env : Env) (f : Syntax) (m : ℕ) (w : World) (e : Refusal) (now now' : Seen) (env' : Env) → Gives {A = ℕ} (Err e) (begun limits m w) env' now → Gives {A = Syntax} (Err e) (transcribed limits env f m w) env now'
unfolding transcribed
never_begun limits env f m w (refusals.Fault fault) now now' env' h = record { wanted = ap (λ s. and_then s (λ stamp w. accepted limits f.place (filled_by limits w env f m stamp) w)) h.wanted }
never_begun limits env f m w refusals.NoMemory now now' env' h = tt
