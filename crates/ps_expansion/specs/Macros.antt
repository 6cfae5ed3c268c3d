-- Macros: their rules, and local ones (R5RS 4.3.1, 4.3.2, 5.3).
use Rattle.std.specs.Prelude.{ℕ, ◌+◌, List, [], ◌∷◌, codes}
use Rattle.ps_base.specs.Names.{number_of}
use Rattle.ps_base.specs.declared.faults.FormKind.TheVariants.{BadRules}
use Rattle.ps_derived.specs.PartsOf.{MacroOf}
use Rattle.ps_pattern.specs.Compiling.{compiled}
use Rattle.ps_pattern.specs.declared.binding.Binding.TheVariants as b
use Rattle.ps_pattern.specs.declared.syntax.Syntax.{Syntax}
use Rattle.ps_pattern.specs.declared.transcription.Rule.{Rule}
use Rattle.ps_scope.specs.Environments.{Env, pair_of, word_of}
use Rattle.ps_hygiene.specs.Runs.{Run, ◌>>=◌, ◌>>◌, pure, known}
use Rattle.ps_hygiene.specs.Worlds as worlds
use Rattle.ps_expansion.specs.States.{Task, State, in_world}

-- keywords stand for macros, numbered in a row
abbrev pub bind_macros : List MacroOf → ℕ → Env → Env
bind_macros [] m env = env
bind_macros (x ∷ xs) m env = bind_macros xs (m + 1) (pair_of (word_of x.keyword) (b.Macro m) ∷ env)

module _ (task : Task) where
  abbrev pub rules_from : Syntax → Run State (List Rule)
  rules_from f = known BadRules f.place (compiled (number_of task.names (codes "...")) (number_of task.names (codes "syntax-rules")) f)

  -- a macro, whose rules stand in an environment
  abbrev pub add_macro : Env → Syntax → Run State ℕ
  add_macro env f = rules_from f >>= (λ rules. in_world (worlds.next_macro rules env))

  -- the rules in order
  abbrev pub add_macros : Env → List MacroOf → Run State (Unit {0})
  add_macros env [] = pure tt
  add_macros env (m ∷ ms) = add_macro env m.rules >> add_macros env ms
