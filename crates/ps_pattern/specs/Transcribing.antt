-- What a macro use stands for: nothing where no rule matches, and else what the first rule that matches gives.
use Rattle.std.specs.Prelude.{ℕ, ◌≡◌, ◌<◌, ◌≤◌, ⊤, List, [], ◌∷◌, Option, Some, None, Result, Ok, Err}
use Rattle.std.specs.Option.{option_map}
use Rattle.ps_pattern.specs.declared.syntax.Syntax.{Syntax}
use Rattle.ps_pattern.specs.declared.transcription.Rule.{Rule}
use Rattle.ps_pattern.specs.declared.transcription.PatternFault.{PatternFault}
use Rattle.ps_pattern.specs.declared.transcription.PatternFault.TheVariants.{NoRule, BadRules, Uneven, TooLarge, NoMemory}
use Rattle.ps_pattern.specs.Matching.{Literals, matched}
use Rattle.ps_pattern.specs.Filling.{filled, size}

abbrev pub or_else : Option (Option Syntax) → Option (Option Syntax) → Option (Option Syntax)
or_else (Some x) rest = Some x
or_else None rest = rest

-- the inner option is empty where the template has no result
abbrev pub chosen : Literals → ℕ → Syntax → List Rule → Option (Option Syntax)
chosen same stamp f [] = None
chosen same stamp f (r ∷ rs) = or_else (option_map (filled stamp f.place r.template) (matched same r.pattern f)) (chosen same stamp f rs)

abbrev pub Transcribed : Option (Option Syntax) → ℕ → Result Syntax PatternFault → Type 0
Transcribed want room (Ok g) = (want ≡ Some (Some g)) × (size g ≤ room)
Transcribed want room (Err NoRule) = want ≡ None
Transcribed want room (Err Uneven) = want ≡ Some None
Transcribed want room (Err TooLarge) = (f : Syntax) × (want ≡ Some (Some f)) × (room < size f)
Transcribed want room (Err BadRules) = ⊥
Transcribed want room (Err NoMemory) = ⊤
