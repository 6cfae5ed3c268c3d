-- Compiled rules fit: each variable of a template is one of its pattern, and stands under exactly its ellipses (R5RS 4.3.2).
-- Read `extent p` as: under how many ellipses the variables of the pattern p stand, from left to right.
use Rattle.std.specs.Prelude.{◌≡◌, ℕ, suc, Bool, true, ◌&&◌, ◌==◌, List, [], ◌∷◌, ◌++◌, length, map, Option, Some}
use Rattle.std.specs.List.{list_all, AllByRecursion}
use Rattle.ps_pattern.specs.declared.syntax.Syntax.{Syntax}
use Rattle.ps_pattern.specs.declared.template.Template.{Template}
use Rattle.ps_pattern.specs.declared.rules.Pattern.{Pattern, fold-Pattern}
use Rattle.ps_pattern.specs.declared.rules.Pattern.TheOpen as p
use Rattle.ps_pattern.specs.declared.transcription.Rule.{Rule}
use Rattle.ps_pattern.specs.Identifiers.{Keys}
use Rattle.ps_pattern.specs.Compiling.{compiled}
use Rattle.ps_pattern.specs.Surveys.{fits}
use Rattle.ps_pattern.specs.Templates.{template_of}

-- under how many ellipses the variables of a pattern stand, from left to right, and whether each ellipsis tells their number
pub record Extent : Type 0 where
  pub depths : List ℕ
  pub told : Bool

abbrev pub flat : List Extent → List ℕ
flat [] = []
flat (x ∷ xs) = x.depths ++ flat xs

abbrev pub all_told : List Extent → Bool
all_told xs = list_all (λ x. x.told) xs

abbrev pub none : Extent
none = record { depths = []; told = true }

abbrev pub row_extent : List Extent → Extent
row_extent xs = record { depths = flat xs; told = all_told xs }

abbrev pub each_extent : List Extent → Extent → ℕ → Extent
each_extent xs x w = record { depths = flat xs ++ map suc x.depths; told = all_told xs && (x.told && (w == length x.depths)) }

abbrev pub level_extent : p.Pattern-F Extent → Extent
level_extent p.Ignored = none
level_extent p.Variable = record { depths = 0 ∷ []; told = true }
level_extent (p.Literal id) = none
level_extent (p.Boolean x) = none
level_extent (p.Integer x) = none
level_extent (p.Char x) = none
level_extent (p.Text x) = none
level_extent (p.List xs) = row_extent xs
level_extent (p.ListEach xs x w) = each_extent xs x w
level_extent (p.Dotted xs x) = record { depths = flat xs ++ x.depths; told = all_told xs && x.told }
level_extent (p.Vector xs) = row_extent xs
level_extent (p.VectorEach xs x w) = each_extent xs x w

unfoldable pub extent : Pattern → Extent
extent x = fold-Pattern Extent level_extent x

-- the template's variables are those of the pattern, each of depth 1 or more under exactly its ellipses, and each ellipsis
-- goes through those below it
pub record Fits (rule : Rule) : Type 0 where
  pub told : (extent rule.pattern).told ≡ true
  pub fitting : fits (extent rule.pattern).depths rule.template 0 ≡ true

abbrev pub CompiledRulesFit : Type 0
CompiledRulesFit = (dots keyword : Option ℕ) (f : Syntax) (rules : List Rule)
    → compiled dots keyword f ≡ Some rules → AllByRecursion Fits rules

-- what is read as a template fits
abbrev pub ReadTemplatesFit : Type 0
ReadTemplatesFit = (dots : Option ℕ) (keys : Keys) (depths : List ℕ) (f : Syntax) (n : ℕ) (x : Template)
    → template_of dots keys depths f n ≡ Some x → fits depths x n ≡ true
