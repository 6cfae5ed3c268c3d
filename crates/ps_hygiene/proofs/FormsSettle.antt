-- Transcribing until a form is no macro use.
-- For: settle
use Rattle.std.proofs.Common.{◌≡◌, ◌∙◌, ℕ, zero, suc, ◌+◌, ◌-◌, ◌<◌, refl, ap, sym, arith, length, true, Err, Option, Some, None}
use Rattle.std.specs.Prelude.{is_some}
use Rattle.ps_base.specs.declared.faults.Fault.{Fault}
use Rattle.ps_base.specs.declared.faults.Refusal.{Refusal}
use Rattle.ps_base.specs.declared.faults.Refusal.TheVariants as refusals
use Rattle.ps_base.specs.declared.limits.Limits.{Limits}
use Rattle.ps_pattern.specs.declared.syntax.Syntax.{Syntax}
use Rattle.ps_scope.specs.Environments.{Env}
use Rattle.ps_hygiene.specs.Answers.{Seen, or_given, Gives, Settles}
use Rattle.ps_hygiene.specs.Forms.{Shape, Boolean, Integer, Char, Text, Name, Special, Use, Call, Bad, shape, used}
use Rattle.ps_hygiene.specs.Runs.{Goes, Stops, Run, and_then}
use Rattle.ps_hygiene.specs.Transcriptions.{transcribed, settles, settle, settled}
use Rattle.ps_hygiene.specs.Worlds.{World}

use_of : (sh : Shape) (m : ℕ) → used sh ≡ Some m → sh ≡ Use m
use_of (Boolean x) m e = (cc)
use_of (Integer x) m e = (cc)
use_of (Char x) m e = (cc)
use_of (Text x) m e = (cc)
use_of (Name x) m e = (cc)
use_of (Special x) m e = (cc)
use_of (Use k) m e = (cc)
use_of (Call g fs) m e = (cc)
use_of Bad m e = (cc)

-- something was made exactly where the form is a macro use from the start
abbrev pub MadeSo : Syntax → Option Syntax → Seen → Seen → Type 0
MadeSo f None now start = now ≡ start
MadeSo f (Some g) now start = is_some (used (shape start.world start.here f)) ≡ true

pub made_more : (f g : Syntax) (made : Option Syntax) (now start after : Seen) (m : ℕ) → used (shape now.world start.here (or_given f made)) ≡ Some m → MadeSo f made now start → MadeSo f (Some g) after start
made_more f g None now start after m e h = ap (λ s. is_some (used (shape s.world start.here f))) (sym h) ∙ ap is_some e
made_more f g (Some x) now start after m e h = h

pub made_end : (f : Syntax) (made : Option Syntax) (now start : Seen) → used (shape now.world start.here (or_given f made)) ≡ None → MadeSo f made now start → is_some made ≡ is_some (used (shape start.world start.here f))
made_end f None now start e h = sym (ap (λ s. is_some (used (shape s.world start.here f))) (sym h) ∙ ap is_some e)
made_end f (Some x) now start e h = sym h

module _ (limits : Limits) (env : Env) where
  stands_by : (again : Syntax → Run World Syntax) (f : Syntax) (w : World) (sh : Shape) → used sh ≡ None → settles limits again env f w sh ≡ Goes f w
  stands_by again f w (Boolean x) e = refl
  stands_by again f w (Integer x) e = refl
  stands_by again f w (Char x) e = refl
  stands_by again f w (Text x) e = refl
  stands_by again f w (Name x) e = refl
  stands_by again f w (Special x) e = refl
  stands_by again f w (Use m) e = (cc)
  stands_by again f w (Call g fs) e = refl
  stands_by again f w Bad e = refl

  settle_stands : (n : ℕ) (f : Syntax) (w : World) → used (shape w env f) ≡ None → settle limits n env f w ≡ Goes f w
  settle_stands zero f w e = stands_by (λ g v. Goes g v) f w (shape w env f) e
  settle_stands (suc n) f w e = stands_by (settle limits n env) f w (shape w env f) e

  -- a form that is no macro use stands
  pub stands : (f : Syntax) (w : World) → used (shape w env f) ≡ None → settled limits env f w ≡ Goes f w
  unfolding settled
  stands f w e = settle_stands (limits.transcriptions - length w.uses) f w e

  settle_use : (n : ℕ) (f g : Syntax) (m : ℕ) (w w' : World) → shape w env f ≡ Use m → transcribed limits env f m w ≡ Goes g w' → settle limits (suc n) env f w ≡ settle limits n env g w'
  settle_use n f g m w w' e h = ap (settles limits (settle limits n env) env f w) e ∙ ap (λ s. and_then s (settle limits n env)) h

  -- a macro use goes on as what it was transcribed to
  pub goes_on : (f g : Syntax) (m : ℕ) (w w' : World) → used (shape w env f) ≡ Some m → transcribed limits env f m w ≡ Goes g w' → length w.uses < limits.transcriptions → length w'.uses ≡ length w.uses + 1 → settled limits env f w ≡ settled limits env g w'
  unfolding settled
  goes_on f g m w w' e h lt one =
      let n : limits.transcriptions - length w.uses ≡ suc (limits.transcriptions - length w'.uses) = omega arith in
      ap (λ n. settle limits n env f w) n ∙ settle_use (limits.transcriptions - length w'.uses) f g m w w' (use_of (shape w env f) m e) h

  settle_stops : (n : ℕ) (f : Syntax) (m : ℕ) (w : World) (fault : Fault) → shape w env f ≡ Use m → transcribed limits env f m w ≡ Stops fault → settle limits n env f w ≡ Stops fault
  settle_stops zero f m w fault e h = ap (settles limits (λ g v. Goes g v) env f w) e ∙ ap (λ s. and_then s (λ g v. Goes g v)) h
  settle_stops (suc n) f m w fault e h = ap (settles limits (settle limits n env) env f w) e ∙ ap (λ s. and_then s (settle limits n env)) h

  -- where a transcription stops, all stops
  pub settled_stops : (f form : Syntax) (m : ℕ) (w : World) (e : Refusal) (env' env'' : Env) (now now' : Seen) → used (shape w env f) ≡ Some m → Gives {A = Syntax} (Err e) (transcribed limits env f m w) env' now → Settles form (Err e) (settled limits env f w) env'' now'
  unfolding settled
  settled_stops f form m w (refusals.Fault fault) env' env'' now now' e h = record { wanted = settle_stops (limits.transcriptions - length w.uses) f m w fault (use_of (shape w env f) m e) h.wanted }
  settled_stops f form m w refusals.NoMemory env' env'' now now' e h = tt
