-- What is read as a template fits.
-- For: templates_fit
use Rattle.std.proofs.Common.{◌≡◌, ℕ, ℤ, ◌+◌, Bool, true, false, List, [], ◌∷◌, map, refl, ap, sym, ◌∙◌, Option, Some, None}
use Rattle.std.specs.Prelude.{slice_get, if◌then◌else◌, ◌&&◌}
use Rattle.std.specs.Option.{option_map, option_and_then}
use Rattle.std.specs.List.{list_all, AllByRecursion}
use Rattle.std.specs.Str.{bytes_eq}
use Rattle.std.proofs.lemmas.Slice.Eq.{bytes_eq-Decides}
use Rattle.std.proofs.lemmas.List.Folds.{list_all-map}
use Rattle.ps_pattern.specs.declared.syntax.Ident.{Ident}
use Rattle.ps_base.specs.declared.faults.Place.{Place}
use Rattle.ps_pattern.specs.declared.syntax.Syntax.{Syntax, roll-Syntax}
use Rattle.ps_pattern.specs.declared.syntax.SyntaxNode.{SyntaxNode, out-SyntaxNode}
use Rattle.ps_pattern.specs.declared.syntax.SyntaxNode.TheVariants as n
use Rattle.ps_pattern.specs.declared.syntax.SyntaxNode.TheOpen as o
use Rattle.ps_pattern.specs.declared.template.Part.{Part}
use Rattle.ps_pattern.specs.declared.template.Part.TheVariants as q
use Rattle.ps_pattern.specs.declared.template.Template.{Template}
use Rattle.ps_pattern.specs.declared.template.Template.TheVariants as t
use Rattle.ps_pattern.specs.Identifiers.{Keys, is_named, starts, key, place_of}
use Rattle.ps_pattern.specs.Surveys.{survey_part, fits, part_fits, deep, may_stand, stands_under, is_some_number}
use Rattle.ps_pattern.specs.Templates.{View, view, level_view, template_of, parts_read, part_read, before, each_of, each_with, placed, variable_under, dotted_of, level_read}
use Rattle.ps_pattern.specs.Fitting.{ReadTemplatesFit}
use Rattle.ps_pattern.proofs.Rests.{some_is}
use Rattle.ps_pattern.proofs.Trees.{induction, fold_by, opened}
use Rattle.ps_pattern.proofs.SurveyRows.{survey_variable, survey_inserted, survey_boolean, survey_integer, survey_char, survey_text, survey_list, survey_vector, survey_dotted, survey_plain, survey_each}

-- where a step after a result gives something, there is a result
pub then_some : {A B : Type 0} (f : A → Option B) (a : Option A) (b : B) → option_and_then f a ≡ Some b → (x : A) × (a ≡ Some x) × (f x ≡ Some b)
then_some f None b e = absurd cc
then_some f (Some x) b e = (x, refl, e)

pub map_some : {A B : Type 0} (f : A → B) (a : Option A) (b : B) → option_map f a ≡ Some b → (x : A) × (a ≡ Some x) × (b ≡ f x)
map_some f None b e = absurd cc
map_some f (Some x) b e = (x, refl, sym (some_is e))

module _ (depths : List ℕ) where
  fits_inserted : (id : Ident) (around : ℕ) → fits depths (t.Inserted id) around ≡ true
  unfolding fits
  fits_inserted id around = ap (λ s. s.fits around) (survey_inserted depths id)

  fits_boolean : (x : Bool) (around : ℕ) → fits depths (t.Boolean x) around ≡ true
  unfolding fits
  fits_boolean x around = ap (λ s. s.fits around) (survey_boolean depths x)

  fits_integer : (x : ℤ) (around : ℕ) → fits depths (t.Integer x) around ≡ true
  unfolding fits
  fits_integer x around = ap (λ s. s.fits around) (survey_integer depths x)

  fits_char : (x : ℕ) (around : ℕ) → fits depths (t.Char x) around ≡ true
  unfolding fits
  fits_char x around = ap (λ s. s.fits around) (survey_char depths x)

  fits_text : (x : List ℕ) (around : ℕ) → fits depths (t.Text x) around ≡ true
  unfolding fits
  fits_text x around = ap (λ s. s.fits around) (survey_text depths x)

  fits_variable : (v around : ℕ) → fits depths (t.Variable v) around ≡ may_stand (slice_get depths v) around
  unfolding fits
  fits_variable v around = ap (λ s. s.fits around) (survey_variable depths v)

  abbrev all_fit : List Part → ℕ → Bool
  all_fit ps around = list_all (λ p. part_fits depths p around) ps

  fits_list : (ps : List Part) (around : ℕ) → fits depths (t.List ps) around ≡ all_fit ps around
  unfolding fits part_fits
  fits_list ps around = ap (λ s. s.fits around) (survey_list depths ps) ∙ list_all-map (λ p. p.fits around) (survey_part depths) ps

  fits_vector : (ps : List Part) (around : ℕ) → fits depths (t.Vector ps) around ≡ all_fit ps around
  unfolding fits part_fits
  fits_vector ps around = ap (λ s. s.fits around) (survey_vector depths ps) ∙ list_all-map (λ p. p.fits around) (survey_part depths) ps

  fits_dotted : (ps : List Part) (last : Template) (around : ℕ) → fits depths (t.Dotted ps last) around ≡ (all_fit ps around && fits depths last around)
  unfolding fits part_fits
  fits_dotted ps last around = ap (λ s. s.fits around) (survey_dotted depths ps last) ∙ ap (λ b. b && fits depths last around) (list_all-map (λ p. p.fits around) (survey_part depths) ps)

  fits_plain : (x : Template) (around : ℕ) → part_fits depths (q.Plain x) around ≡ fits depths x around
  unfolding fits part_fits
  fits_plain x around = ap (λ s. s.fits around) (survey_plain depths x)

  fits_each : (x : Template) (through : List ℕ) (around : ℕ) → part_fits depths (q.Each x through) around ≡ (bytes_eq through (deep depths x) && (is_some_number through && fits depths x (around + 1)))
  unfolding fits part_fits deep
  fits_each x through around = ap (λ s. s.fits around) (survey_each depths x through)

  same_numbers : (xs ys : List ℕ) → xs ≡ ys → bytes_eq xs ys ≡ true
  same_numbers xs ys e = (bytes_eq-Decides xs ys).1 e

  -- one variable
  under_fits : (v around d : ℕ) (stands : Bool) (x : Template) → slice_get depths v ≡ Some d → stands_under d around ≡ stands → (if stands then Some (t.Variable v) else None) ≡ Some x → fits depths x around ≡ true
  under_fits v around d false x h k e = absurd cc
  under_fits v around d true x h k e = ap (λ z. fits depths z around) (sym (some_is e)) ∙ fits_variable v around ∙ ap (λ z. may_stand z around) h ∙ k

  variable_fits : (v around : ℕ) (d : Option ℕ) (x : Template) → slice_get depths v ≡ d → variable_under v d around ≡ Some x → fits depths x around ≡ true
  variable_fits v around None x h e = absurd cc
  variable_fits v around (Some d) x h e = under_fits v around d (stands_under d around) x h refl e

  placed_fits : (id : Ident) (around : ℕ) (v : Option ℕ) (x : Template) → placed depths id v around ≡ Some x → fits depths x around ≡ true
  placed_fits id around None x e = ap (λ z. fits depths z around) (sym (some_is e)) ∙ fits_inserted id around
  placed_fits id around (Some v) x e = variable_fits v around (slice_get depths v) x refl e

  ident_fits : (is : Bool) (id : Ident) (around : ℕ) (v : Option ℕ) (x : Template) → (if is then None else placed depths id v around) ≡ Some x → fits depths x around ≡ true
  ident_fits true id around v x e = absurd cc
  ident_fits false id around v x e = placed_fits id around v x e

  -- a reader whose templates fit
  abbrev Good : View → Type 0
  Good v = (around : ℕ) (x : Template) → v.read around ≡ Some x → fits depths x around ≡ true

  with_fits : (through : List ℕ) (x : Template) (around : ℕ) (p : Part) → through ≡ deep depths x → fits depths x (around + 1) ≡ true → each_with through x ≡ Some p → part_fits depths p around ≡ true
  with_fits [] x around p h good e = absurd cc
  with_fits (v ∷ vs) x around p h good e =
      ap (λ z. part_fits depths z around) (sym (some_is e)) ∙ fits_each x (v ∷ vs) around ∙ ap (λ z. z && fits depths x (around + 1)) (same_numbers (v ∷ vs) (deep depths x) h) ∙ good

  part_fit : (each : Bool) (v : View) (good : Good v) (around : ℕ) (p : Part) → part_read depths each v around ≡ Some p → part_fits depths p around ≡ true
  part_fit true v good around p e =
      let a : (x : Template) × (v.read (around + 1) ≡ Some x) × (each_of depths x ≡ Some p) = then_some (each_of depths) (v.read (around + 1)) p e in
      with_fits (deep depths a.0) a.0 around p refl (good (around + 1) a.0 a.1) a.2
  part_fit false v good around p e =
      let b : (x : Template) × (v.read around ≡ Some x) × (p ≡ q.Plain x) = map_some q.Plain (v.read around) p e in
      ap (λ z. part_fits depths z around) b.2 ∙ fits_plain b.0 around ∙ good around b.0 b.1

module _ (dots : Option ℕ) (keys : Keys) (depths : List ℕ) where
  abbrev seen : Syntax → View
  seen f = view dots keys depths f

  abbrev P : Syntax → Type 0
  P f = Good depths (seen f)

  abbrev read_on : ℕ → Bool → List Syntax → Option (List Part)
  read_on around may fs = parts_read depths around may (map (view dots keys depths) fs)

  mutual_step : (fs : List Syntax) (f : Syntax) (good : P f) (rest : (around : ℕ) (may : Bool) (ps : List Part) → read_on around may fs ≡ Some ps → all_fit depths ps around ≡ true)
      (around : ℕ) (is may : Bool) (ps : List Part)
      → (if is then (if may then read_on around false fs else None) else option_and_then (before (read_on around true fs)) (part_read depths (starts (map (λ y. y.is_dots) (map (view dots keys depths) fs))) (seen f) around)) ≡ Some ps
      → all_fit depths ps around ≡ true
  mutual_step fs f good rest around true true ps e = rest around false ps e
  mutual_step fs f good rest around true false ps e = absurd cc
  mutual_step fs f good rest around false may ps e =
      let each : Bool = starts (map (λ y. y.is_dots) (map (view dots keys depths) fs)) in
      let a : (p : Part) × (part_read depths each (seen f) around ≡ Some p) × (before (read_on around true fs) p ≡ Some ps) = then_some (before (read_on around true fs)) (part_read depths each (seen f) around) ps e in
      let b : (qs : List Part) × (read_on around true fs ≡ Some qs) × (ps ≡ a.0 ∷ qs) = map_some (λ qs. a.0 ∷ qs) (read_on around true fs) ps a.2 in
      ap (λ z. all_fit depths z around) b.2 ∙ ap (λ z. z && all_fit depths b.0 around) (part_fit depths each (seen f) good around a.0 a.1) ∙ rest around true b.0 b.1

  parts_fit : (fs : List Syntax) → AllByRecursion P fs → (around : ℕ) (may : Bool) (ps : List Part) → read_on around may fs ≡ Some ps → all_fit depths ps around ≡ true
  parts_fit [] all around may ps e = ap (λ z. all_fit depths z around) (sym (some_is e))
  parts_fit (f ∷ fs) all around may ps e = mutual_step fs f all.0 (parts_fit fs all.1) around (seen f).is_dots may ps e

  -- a form of one layer
  abbrev Q : SyntaxNode → Type 0
  Q x = (at : Place) → P (roll-Syntax (record { place = at; node = x }))

  read_by : (at : Place) (x : SyntaxNode) (y : o.SyntaxNode-F SyntaxNode Syntax) → out-SyntaxNode x ≡ y → (view dots keys depths (roll-Syntax (record { place = at; node = x }))).read ≡ level_read dots keys depths (opened (level_view dots keys depths) y)
  unfolding view
  read_by at x y is = ap (λ v. v.read) (fold_by (level_view dots keys depths) (roll-Syntax (record { place = at; node = x })) y is)

  good_by : (at : Place) (x : SyntaxNode) (y : o.SyntaxNode-F SyntaxNode Syntax) → out-SyntaxNode x ≡ y → ((around : ℕ) (z : Template) → level_read dots keys depths (opened (level_view dots keys depths) y) around ≡ Some z → fits depths z around ≡ true) → P (roll-Syntax (record { place = at; node = x }))
  good_by at x y is h around z e = h around z (ap (λ g. g around) (sym (read_by at x y is)) ∙ e)

  list_good : (fs : List Syntax) → AllByRecursion P fs → (around : ℕ) (z : Template) → option_map t.List (parts_read depths around false (map (view dots keys depths) fs)) ≡ Some z → fits depths z around ≡ true
  list_good fs all around z e =
      let b : (ps : List Part) × (parts_read depths around false (map (view dots keys depths) fs) ≡ Some ps) × (z ≡ t.List ps) = map_some t.List (parts_read depths around false (map (view dots keys depths) fs)) z e in
      ap (λ w. fits depths w around) b.2 ∙ fits_list depths b.0 around ∙ parts_fit fs all around false b.0 b.1

  vector_good : (fs : List Syntax) → AllByRecursion P fs → (around : ℕ) (z : Template) → option_map t.Vector (parts_read depths around false (map (view dots keys depths) fs)) ≡ Some z → fits depths z around ≡ true
  vector_good fs all around z e =
      let b : (ps : List Part) × (parts_read depths around false (map (view dots keys depths) fs) ≡ Some ps) × (z ≡ t.Vector ps) = map_some t.Vector (parts_read depths around false (map (view dots keys depths) fs)) z e in
      ap (λ w. fits depths w around) b.2 ∙ fits_vector depths b.0 around ∙ parts_fit fs all around false b.0 b.1

  dotted_good : (fs : List Syntax) (f : Syntax) → AllByRecursion P fs → P f → (around : ℕ) (z : Template) → option_and_then (dotted_of ((seen f).read around)) (parts_read depths around false (map (view dots keys depths) fs)) ≡ Some z → fits depths z around ≡ true
  dotted_good fs f all good around z e =
      let a : (ps : List Part) × (parts_read depths around false (map (view dots keys depths) fs) ≡ Some ps) × (dotted_of ((seen f).read around) ps ≡ Some z) = then_some (dotted_of ((seen f).read around)) (parts_read depths around false (map (view dots keys depths) fs)) z e in
      let b : (x : Template) × ((seen f).read around ≡ Some x) × (z ≡ t.Dotted a.0 x) = map_some (t.Dotted a.0) ((seen f).read around) z a.2 in
      ap (λ w. fits depths w around) b.2 ∙ fits_dotted depths a.0 b.0 around ∙ ap (λ w. w && fits depths b.0 around) (parts_fit fs all around false a.0 a.1) ∙ good around b.0 b.1

  all_good : (f : Syntax) → P f
  unfolding view
  all_good = induction Q P
      (λ b at. good_by at (n.Boolean b) (o.Boolean b) (n.outs-Boolean b) (λ around z e. ap (λ w. fits depths w around) (sym (some_is e)) ∙ fits_boolean depths b around))
      (λ i at. good_by at (n.Integer i) (o.Integer i) (n.outs-Integer i) (λ around z e. ap (λ w. fits depths w around) (sym (some_is e)) ∙ fits_integer depths i around))
      (λ i at. good_by at (n.Char i) (o.Char i) (n.outs-Char i) (λ around z e. ap (λ w. fits depths w around) (sym (some_is e)) ∙ fits_char depths i around))
      (λ i at. good_by at (n.Text i) (o.Text i) (n.outs-Text i) (λ around z e. ap (λ w. fits depths w around) (sym (some_is e)) ∙ fits_text depths i around))
      (λ id at. good_by at (n.Ident id) (o.Ident id) (n.outs-Ident id) (λ around z e. ident_fits depths (is_named dots id) id around (place_of keys (key id)) z e))
      (λ fs all at. good_by at (n.List fs) (o.List fs) (n.outs-List fs) (list_good fs all))
      (λ fs f all good at. good_by at (n.Dotted fs f) (o.Dotted fs f) (n.outs-Dotted fs f) (dotted_good fs f all good))
      (λ fs all at. good_by at (n.Vector fs) (o.Vector fs) (n.outs-Vector fs) (vector_good fs all))
      (λ at x h. h at)

pub read_templates_fit : ReadTemplatesFit
unfolding template_of
read_templates_fit dots keys depths f around x e = all_good dots keys depths f around x e
