-- The rules of a `syntax-rules` form (R5RS 4.3.2 and 7.1.5, in this project's profile). Read `compiled dots keyword f` as: the
-- rules that the form f has where `...` and `syntax-rules` have these numbers, and nothing where f is no such form.
use Rattle.std.specs.Prelude.{ℕ, Bool, false, if◌then◌else◌, List, [], ◌∷◌, ◌++◌, map, Option, Some, None, Result, Ok, Err, ◌≡◌, ⊤}
use Rattle.std.specs.Option.{option_map, option_and_then}
use Rattle.ps_pattern.specs.declared.syntax.Ident.{Ident}
use Rattle.ps_pattern.specs.declared.syntax.Syntax.{Syntax}
use Rattle.ps_pattern.specs.declared.syntax.SyntaxNode.{SyntaxNode, out-SyntaxNode}
use Rattle.ps_pattern.specs.declared.syntax.SyntaxNode.TheOpen as o
use Rattle.ps_pattern.specs.declared.rules.Pattern.{Pattern}
use Rattle.ps_pattern.specs.declared.template.Template.{Template}
use Rattle.ps_pattern.specs.declared.transcription.Rule.{Rule}
use Rattle.ps_pattern.specs.declared.transcription.PatternFault.{PatternFault}
use Rattle.ps_pattern.specs.declared.transcription.PatternFault.TheVariants.{NoRule, BadRules, Uneven, TooLarge, NoMemory}
use Rattle.ps_pattern.specs.declared.variables.Var.{Var}
use Rattle.ps_pattern.specs.declared.variables.Read.{Read}
use Rattle.ps_pattern.specs.Matching.{collect}
use Rattle.ps_pattern.specs.Identifiers.{Keys, is_named, key, among, all_keys}
use Rattle.ps_pattern.specs.Reading.{pattern_of, row_of, behind_first, list_read, dotted_read}
use Rattle.ps_pattern.specs.Templates.{template_of}

abbrev pub Node : Type 0
Node = o.SyntaxNode-F SyntaxNode Syntax

abbrev pub list_parts : Node → Option (List Syntax)
list_parts (o.List fs) = Some fs
list_parts x = None

abbrev pub ident_parts : Node → Option Ident
ident_parts (o.Ident id) = Some id
ident_parts x = None

abbrev pub ident_at : Syntax → Option Ident
ident_at f = ident_parts (out-SyntaxNode f.node)

-- a list of identifiers
abbrev pub idents_of : List Syntax → Option (List Ident)
idents_of fs = collect (map ident_at fs)

-- keys, and behind them those of variables; nothing where a variable stands before
abbrev pub table_of : Keys → List Var → Option Keys
table_of keys [] = Some keys
table_of keys (v ∷ vs) = if among v.id keys then None else table_of (keys ++ key v.id ∷ []) vs

-- the whole pattern, whose first element is ignored
abbrev pub whole_in : Option ℕ → Keys → Node → Option Read
whole_in dots literals (o.List (f ∷ fs)) = option_map list_read (option_map behind_first (row_of dots literals 0 fs))
whole_in dots literals (o.Dotted (f ∷ fs) last) =
    option_and_then (dotted_read (pattern_of dots literals last 0)) (option_map behind_first (row_of dots literals 0 fs))
whole_in dots literals x = None

abbrev pub whole_of : Option ℕ → Keys → Syntax → Option Read
whole_of dots literals f = whole_in dots literals (out-SyntaxNode f.node)

abbrev pub rule_for : Pattern → Template → Rule
rule_for p t = record { pattern = p; template = t }

abbrev pub with_template : Option ℕ → Syntax → Read → Keys → Option Rule
with_template dots template r keys = option_map (rule_for r.pattern) (template_of dots keys (map (λ v. v.depth) r.vars) template 0)

abbrev pub rule_with : Option ℕ → Syntax → Read → Option Rule
rule_with dots template r = option_and_then (with_template dots template r) (table_of [] r.vars)

abbrev pub rule_parts : Option ℕ → Keys → List Syntax → Option Rule
rule_parts dots literals (pattern ∷ template ∷ []) = option_and_then (rule_with dots template) (whole_of dots literals pattern)
rule_parts dots literals fs = None

abbrev pub rule_of : Option ℕ → Keys → Syntax → Option Rule
rule_of dots literals f = option_and_then (rule_parts dots literals) (list_parts (out-SyntaxNode f.node))

abbrev pub rules_of : Option ℕ → Keys → List Syntax → Option (List Rule)
rules_of dots literals fs = collect (map (rule_of dots literals) fs)

-- the keys of the literals, each once
abbrev pub literals_at : Syntax → Option Keys
literals_at f = option_map (all_keys []) (option_and_then idents_of (list_parts (out-SyntaxNode f.node)))

abbrev pub is_keyword : Option ℕ → Option Ident → Bool
is_keyword keyword None = false
is_keyword keyword (Some id) = is_named keyword id

-- (syntax-rules (literal ...) rule ...)
abbrev pub compiled_parts : Option ℕ → Option ℕ → List Syntax → Option (List Rule)
compiled_parts dots keyword [] = None
compiled_parts dots keyword (head ∷ []) = None
compiled_parts dots keyword (head ∷ literals ∷ rules) =
    if is_keyword keyword (ident_at head) then option_and_then (λ ids. rules_of dots ids rules) (literals_at literals) else None

abbrev pub compiled : Option ℕ → Option ℕ → Syntax → Option (List Rule)
compiled dots keyword f = option_and_then (compiled_parts dots keyword) (list_parts (out-SyntaxNode f.node))

-- the rules, or BadRules exactly where there are none
abbrev pub Compiled : Option (List Rule) → Result (List Rule) PatternFault → Type 0
Compiled want (Ok rules) = want ≡ Some rules
Compiled want (Err BadRules) = want ≡ None
Compiled want (Err NoMemory) = ⊤
Compiled want (Err NoRule) = ⊥
Compiled want (Err Uneven) = ⊥
Compiled want (Err TooLarge) = ⊥
