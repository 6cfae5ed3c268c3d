-- Which variables of depth 1 or more stand in a template, and whether all its variables stand where they may (R5RS 4.3.2: a
-- variable stands under as many ellipses as in its pattern). Read `(survey depths x).fits n` as: where the pattern's variables
-- have these depths, those of x stand under exactly their ellipses when n more are around x.
use Rattle.std.specs.Prelude.{ℕ, ◌+◌, Bool, true, false, ◌&&◌, ◌||◌, ◌==◌, if◌then◌else◌, List, [], ◌∷◌, ◌++◌, map, Option, Some, None, slice_get}
use Rattle.std.specs.List.{list_all}
use Rattle.std.specs.Str.{bytes_eq}
use Rattle.ps_pattern.specs.declared.template.Part.{Part, fold-Part}
use Rattle.ps_pattern.specs.declared.template.Part.TheOpen as t
use Rattle.ps_pattern.specs.declared.template.Template.{Template, fold-Template}

pub record Survey : Type 0 where
  -- the variables of depth 1 or more, as often as they stand, in order
  pub deep : List ℕ
  -- whether each variable stands under exactly its ellipses, where so many are around
  pub fits : ℕ → Bool

-- a variable of depth 0 stands anywhere, and each other under exactly its ellipses
abbrev pub stands_under : ℕ → ℕ → Bool
stands_under d n = (d == 0) || (d == n)

abbrev pub may_stand : Option ℕ → ℕ → Bool
may_stand None n = false
may_stand (Some d) n = stands_under d n

abbrev pub deep_one : Option ℕ → ℕ → List ℕ
deep_one None v = []
deep_one (Some d) v = if d == 0 then [] else v ∷ []

abbrev pub all_deep : List (List ℕ) → List ℕ
all_deep [] = []
all_deep (x ∷ xs) = x ++ all_deep xs

abbrev pub bare : Survey
bare = record { deep = []; fits = λ n. true }

abbrev pub row : List Survey → Survey
row ps = record { deep = all_deep (map (λ p. p.deep) ps); fits = λ n. list_all (λ p. p.fits n) ps }

abbrev pub is_some_number : List ℕ → Bool
is_some_number [] = false
is_some_number (v ∷ vs) = true

-- an ellipsis goes through the variables of depth 1 or more that stand below it, and there is one
abbrev pub part_survey : t.Part-F Survey Survey → Survey
part_survey (t.Plain x) = x
part_survey (t.Each x through) = record { deep = x.deep; fits = λ n. bytes_eq through x.deep && (is_some_number through && x.fits (n + 1)) }

abbrev pub level_survey : List ℕ → t.Template-F Survey Survey → Survey
level_survey depths (t.Variable v) = record { deep = deep_one (slice_get depths v) v; fits = may_stand (slice_get depths v) }
level_survey depths (t.Inserted id) = bare
level_survey depths (t.Boolean x) = bare
level_survey depths (t.Integer x) = bare
level_survey depths (t.Char x) = bare
level_survey depths (t.Text x) = bare
level_survey depths (t.List ps) = row ps
level_survey depths (t.Vector ps) = row ps
level_survey depths (t.Dotted ps last) =
    record { deep = all_deep (map (λ p. p.deep) ps) ++ last.deep; fits = λ n. list_all (λ p. p.fits n) ps && last.fits n }

unfoldable pub survey : List ℕ → Template → Survey
survey depths x = fold-Template Survey Survey part_survey (level_survey depths) x

unfoldable pub survey_part : List ℕ → Part → Survey
survey_part depths x = fold-Part Survey Survey part_survey (level_survey depths) x

unfoldable pub deep : List ℕ → Template → List ℕ
deep depths x = (survey depths x).deep

unfoldable pub deep_in : List ℕ → Part → List ℕ
deep_in depths x = (survey_part depths x).deep

unfoldable pub fits : List ℕ → Template → ℕ → Bool
fits depths x = (survey depths x).fits

unfoldable pub part_fits : List ℕ → Part → ℕ → Bool
part_fits depths x = (survey_part depths x).fits
