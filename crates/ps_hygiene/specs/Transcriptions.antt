-- Macro uses: a form is transcribed until it is no macro use (R5RS 4.3; the counts are this project's own).
use Rattle.std.specs.Prelude.{ℕ, zero, suc, ◌+◌, ◌-◌, nat_lt, nat_le, List, [], ◌∷◌, ◌++◌, length, Option, Some, None, if◌then◌else◌}
use Rattle.ps_base.specs.declared.faults.Fault.TheVariants as faults
use Rattle.ps_base.specs.declared.faults.FormKind.TheVariants.{NoRule, Uneven, TooDeep}
use Rattle.ps_base.specs.declared.faults.Place.{Place}
use Rattle.ps_base.specs.declared.limits.Limits.{Limits}
use Rattle.ps_pattern.specs.Filling.{size}
use Rattle.ps_pattern.specs.Matching.{literal_of}
use Rattle.ps_pattern.specs.Transcribing.{chosen}
use Rattle.ps_pattern.specs.declared.syntax.Syntax.{Syntax, fold-Syntax}
use Rattle.ps_pattern.specs.declared.syntax.SyntaxNode.TheOpen as o
use Rattle.ps_scope.specs.Environments.{Env}
use Rattle.ps_hygiene.specs.Runs.{Step, Goes, Stops, Run, ◌>>=◌, ◌>>◌, and_then, stop}
use Rattle.ps_hygiene.specs.Worlds.{World, rules_at}
use Rattle.ps_hygiene.specs.Meanings.{binding_of, meaning_in_rules}
use Rattle.ps_hygiene.specs.Forms.{Shape, Use, shape}

abbrev pub larger : ℕ → ℕ → ℕ
larger m n = if nat_lt m n then n else m

abbrev pub deepest : List ℕ → ℕ
deepest [] = 0
deepest (n ∷ ns) = larger n (deepest ns)

-- how deep lists, dotted lists and vectors stand in one another
abbrev pub node_nesting : o.SyntaxNode-F ℕ ℕ → ℕ
node_nesting (o.List ns) = suc (deepest ns)
node_nesting (o.Vector ns) = suc (deepest ns)
node_nesting (o.Dotted ns last) = suc (larger (deepest ns) last)
node_nesting (o.Boolean x) = 0
node_nesting (o.Integer x) = 0
node_nesting (o.Char x) = 0
node_nesting (o.Text x) = 0
node_nesting (o.Ident x) = 0

unfoldable pub nesting : Syntax → ℕ
nesting f = fold-Syntax ℕ ℕ node_nesting (λ x. x.node) f

module _ (limits : Limits) where
  -- a transcription begins, where one more is allowed: its stamp
  abbrev pub begun : ℕ → Run World ℕ
  begun m = λ w. if nat_lt (length w.uses) limits.transcriptions
      then Goes (length w.uses + 1) (record w { uses = w.uses ++ m ∷ [] })
      else Stops (faults.ExpansionSpent limits.transcriptions)

  -- what was transcribed counts by its size
  abbrev pub measured : Syntax → Run World (Unit {0})
  measured g = λ w. if nat_le (size g) w.room then Goes tt (record w { room = w.room - size g }) else Stops (faults.ExpansionSpent limits.transcribed)

  -- it may be nested so deep
  abbrev pub nested : Place → Syntax → Run World Syntax
  nested at g = λ w. if nat_le (nesting g) limits.depth then Goes g w else stop TooDeep at w

  abbrev pub accepted : Place → Option (Option Syntax) → Run World Syntax
  accepted at None = stop NoRule at
  accepted at (Some None) = stop Uneven at
  accepted at (Some (Some g)) = measured g >> nested at g

  abbrev pub filled_by : World → Env → Syntax → ℕ → ℕ → Option (Option Syntax)
  filled_by w env f m stamp = chosen (literal_of (meaning_in_rules w env m) (binding_of w env)) stamp f (rules_at w m)

  -- one use of macro m
  unfoldable pub transcribed : Env → Syntax → ℕ → Run World Syntax
  transcribed env f m = begun m >>= (λ stamp w. accepted f.place (filled_by w env f m stamp) w)

  -- a macro use is transcribed, and what it gives goes on; any other form stands
  abbrev pub settles : (Syntax → Run World Syntax) → Env → Syntax → World → Shape → Step World Syntax
  settles again env f w (Use m) = and_then (transcribed env f m w) again
  settles again env f w other = Goes f w

  -- by the transcriptions left
  abbrev pub settle : ℕ → Env → Syntax → Run World Syntax
  settle zero env f w = settles (λ g v. Goes g v) env f w (shape w env f)
  settle (suc n) env f w = settles (settle n env) env f w (shape w env f)

  unfoldable pub settled : Env → Syntax → Run World Syntax
  settled env f = λ w. settle (limits.transcriptions - length w.uses) env f w
