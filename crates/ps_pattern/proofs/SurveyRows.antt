-- What the definition of a survey says of each kind of template.
-- For: gather, templates_fit
use Rattle.std.proofs.Common.{◌≡◌, ℕ, ℤ, Bool, List, map, ap, sym, ◌∙◌}
use Rattle.std.specs.Prelude.{slice_get}
use Rattle.ps_pattern.specs.declared.syntax.Ident.{Ident}
use Rattle.ps_pattern.specs.declared.template.Part.{Part, fold-roll-Part}
use Rattle.ps_pattern.specs.declared.template.Part.TheVariants as q
use Rattle.ps_pattern.specs.declared.template.Part.TheOpen as u
use Rattle.ps_pattern.specs.declared.template.Template.{Template, fold-roll-Template}
use Rattle.ps_pattern.specs.declared.template.Template.TheVariants as t
use Rattle.ps_pattern.specs.Surveys.{Survey, survey, survey_part, part_survey, level_survey, bare, row, deep_one, may_stand}

module _ (depths : List ℕ) where
  pub survey_variable : (v : ℕ) → survey depths (t.Variable v) ≡ record { deep = deep_one (slice_get depths v) v; fits = may_stand (slice_get depths v) }
  unfolding survey
  survey_variable v = ap (survey depths) (sym (t.rolls-Variable v)) ∙ fold-roll-Template Survey Survey part_survey (level_survey depths) (u.Variable v)

  pub survey_inserted : (id : Ident) → survey depths (t.Inserted id) ≡ bare
  unfolding survey
  survey_inserted id = ap (survey depths) (sym (t.rolls-Inserted id)) ∙ fold-roll-Template Survey Survey part_survey (level_survey depths) (u.Inserted id)

  pub survey_boolean : (x : Bool) → survey depths (t.Boolean x) ≡ bare
  unfolding survey
  survey_boolean x = ap (survey depths) (sym (t.rolls-Boolean x)) ∙ fold-roll-Template Survey Survey part_survey (level_survey depths) (u.Boolean x)

  pub survey_integer : (x : ℤ) → survey depths (t.Integer x) ≡ bare
  unfolding survey
  survey_integer x = ap (survey depths) (sym (t.rolls-Integer x)) ∙ fold-roll-Template Survey Survey part_survey (level_survey depths) (u.Integer x)

  pub survey_char : (x : ℕ) → survey depths (t.Char x) ≡ bare
  unfolding survey
  survey_char x = ap (survey depths) (sym (t.rolls-Char x)) ∙ fold-roll-Template Survey Survey part_survey (level_survey depths) (u.Char x)

  pub survey_text : (x : List ℕ) → survey depths (t.Text x) ≡ bare
  unfolding survey
  survey_text x = ap (survey depths) (sym (t.rolls-Text x)) ∙ fold-roll-Template Survey Survey part_survey (level_survey depths) (u.Text x)

  pub survey_list : (ps : List Part) → survey depths (t.List ps) ≡ row (map (survey_part depths) ps)
  unfolding survey survey_part
  survey_list ps = ap (survey depths) (sym (t.rolls-List ps)) ∙ fold-roll-Template Survey Survey part_survey (level_survey depths) (u.List ps)

  pub survey_vector : (ps : List Part) → survey depths (t.Vector ps) ≡ row (map (survey_part depths) ps)
  unfolding survey survey_part
  survey_vector ps = ap (survey depths) (sym (t.rolls-Vector ps)) ∙ fold-roll-Template Survey Survey part_survey (level_survey depths) (u.Vector ps)

  pub survey_dotted : (ps : List Part) (last : Template) → survey depths (t.Dotted ps last) ≡ level_survey depths (u.Dotted (map (survey_part depths) ps) (survey depths last))
  unfolding survey survey_part
  survey_dotted ps last = ap (survey depths) (sym (t.rolls-Dotted ps last)) ∙ fold-roll-Template Survey Survey part_survey (level_survey depths) (u.Dotted ps last)

  pub survey_plain : (x : Template) → survey_part depths (q.Plain x) ≡ survey depths x
  unfolding survey survey_part
  survey_plain x = ap (survey_part depths) (sym (q.rolls-Plain x)) ∙ fold-roll-Part Survey Survey part_survey (level_survey depths) (u.Plain x)

  pub survey_each : (x : Template) (through : List ℕ) → survey_part depths (q.Each x through) ≡ part_survey (u.Each (survey depths x) through)
  unfolding survey survey_part
  survey_each x through = ap (survey_part depths) (sym (q.rolls-Each x through)) ∙ fold-roll-Part Survey Survey part_survey (level_survey depths) (u.Each x through)
