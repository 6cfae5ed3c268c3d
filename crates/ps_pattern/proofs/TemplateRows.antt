-- What the definition of reading says of the parts of a template, from a place on.
-- For: read_parts
use Rattle.std.proofs.Common.{◌≡◌, ℕ, ◌+◌, Bool, true, false, List, [], ◌∷◌, ◌++◌, map, drop, refl, ap, sym, ◌∙◌, Option, Some, None, append_assoc, append-nil}
use Rattle.std.specs.Prelude.{slice_get, if◌then◌else◌}
use Rattle.std.specs.Option.{option_map, option_and_then}
use Rattle.ps_pattern.specs.declared.syntax.Syntax.{Syntax}
use Rattle.ps_pattern.specs.declared.template.Part.{Part}
use Rattle.ps_pattern.specs.Identifiers.{Keys, dots_at, starts}
use Rattle.ps_pattern.specs.Templates.{view, level_view, part_read, parts_read, before}
use Rattle.ps_pattern.proofs.Trees.{fold_is}
use Rattle.ps_pattern.proofs.Rests.{drop_at}
use Rattle.ps_pattern.proofs.PatternRows.{dots_folded}

abbrev pub behind : List Part → Option (List Part) → Option (List Part)
behind ps rest = option_map (λ qs. ps ++ qs) rest

behind_one : (ps : List Part) (p : Part) (rest : Option (List Part)) → behind ps (before rest p) ≡ behind (ps ++ p ∷ []) rest
behind_one ps p None = refl
behind_one ps p (Some qs) = ap Some (sym (append_assoc ps (p ∷ []) qs))

module _ (dots : Option ℕ) (keys : Keys) (depths : List ℕ) (around : ℕ) where
  pub view_dots : (f : Syntax) → (view dots keys depths f).is_dots ≡ dots_at dots f
  unfolding view
  view_dots f = ap (λ v. v.is_dots) (fold_is (level_view dots keys depths) f) ∙ dots_folded (level_view dots keys depths) dots f

  row_dots : (fs : List Syntax) → map (λ y. y.is_dots) (map (view dots keys depths) fs) ≡ map (dots_at dots) fs
  row_dots [] = refl
  row_dots (f ∷ fs) = ap (λ b. b ∷ map (λ y. y.is_dots) (map (view dots keys depths) fs)) (view_dots f) ∙ ap (λ bs. dots_at dots f ∷ bs) (row_dots fs)

  abbrev parts : Bool → List Syntax → Option (List Part)
  parts may fs = parts_read depths around may (map (view dots keys depths) fs)

  abbrev part : Bool → Syntax → Option Part
  part each f = part_read depths each (view dots keys depths f) around

  abbrev chosen : Bool → Bool → Bool → Syntax → List Syntax → Option (List Part)
  chosen is may each f fs = if is then (if may then parts false fs else None) else option_and_then (before (parts true fs)) (part each f)

  parts_cons : (may : Bool) (f : Syntax) (fs : List Syntax) → parts may (f ∷ fs) ≡ chosen (dots_at dots f) may (starts (map (dots_at dots) fs)) f fs
  parts_cons may f fs = ap (λ b. chosen b may (starts (map (λ y. y.is_dots) (map (view dots keys depths) fs))) f fs) (view_dots f) ∙ ap (λ bs. chosen (dots_at dots f) may (starts bs) f fs) (row_dots fs)

  parts_at : (fs : List Syntax) (i : ℕ) (f : Syntax) (may is : Bool) → slice_get fs i ≡ Some f → dots_at dots f ≡ is → parts may (drop i fs) ≡ chosen is may (starts (map (dots_at dots) (drop (i + 1) fs))) f (drop (i + 1) fs)
  parts_at fs i f may is e h = ap (parts may) (drop_at fs i f e) ∙ parts_cons may f (drop (i + 1) fs) ∙ ap (λ z. chosen z may (starts (map (dots_at dots) (drop (i + 1) fs))) f (drop (i + 1) fs)) h

  -- from a place on, behind the parts that stand before it
  abbrev pub onward : List Part → Bool → ℕ → List Syntax → Option (List Part)
  onward ps may i fs = behind ps (parts may (drop i fs))

  -- `...` where none may stand
  pub misplaced : (fs : List Syntax) (i : ℕ) (f : Syntax) (ps : List Part) (may : Bool) (all : Option (List Part)) → slice_get fs i ≡ Some f → dots_at dots f ≡ true → all ≡ onward ps may i fs → may ≡ false → all ≡ None
  misplaced fs i f ps may all e h inv never = inv ∙ ap (behind ps) (parts_at fs i f may true e h ∙ ap (λ b. chosen true b (starts (map (dots_at dots) (drop (i + 1) fs))) f (drop (i + 1) fs)) never)

  pub passed_dots : (fs : List Syntax) (i : ℕ) (f : Syntax) (ps qs : List Part) (may next : Bool) (all : Option (List Part)) → slice_get fs i ≡ Some f → dots_at dots f ≡ true → all ≡ onward ps may i fs → may ≡ true → qs ≡ ps → next ≡ false → all ≡ onward qs next (i + 1) fs
  passed_dots fs i f ps qs may next all e h inv stands same shut = inv ∙ ap (behind ps) (parts_at fs i f may true e h ∙ ap (λ b. chosen true b (starts (map (dots_at dots) (drop (i + 1) fs))) f (drop (i + 1) fs)) stands) ∙ ap (λ z. onward z false (i + 1) fs) (sym same) ∙ ap (λ z. onward qs z (i + 1) fs) (sym shut)

  pub refused : (fs : List Syntax) (i : ℕ) (f : Syntax) (ps : List Part) (may each : Bool) (all : Option (List Part)) → slice_get fs i ≡ Some f → dots_at dots f ≡ false → all ≡ onward ps may i fs → each ≡ starts (map (dots_at dots) (drop (i + 1) fs)) → part each f ≡ None → all ≡ None
  refused fs i f ps may each all e h inv is never = inv ∙ ap (behind ps) (parts_at fs i f may false e h ∙ ap (λ b. chosen false may b f (drop (i + 1) fs)) (sym is) ∙ ap (option_and_then (before (parts true (drop (i + 1) fs)))) never)

  pub grown : (fs : List Syntax) (i : ℕ) (f : Syntax) (ps qs : List Part) (p : Part) (may next each : Bool) (all : Option (List Part)) → slice_get fs i ≡ Some f → dots_at dots f ≡ false → all ≡ onward ps may i fs → each ≡ starts (map (dots_at dots) (drop (i + 1) fs)) → part each f ≡ Some p → qs ≡ ps ++ p ∷ [] → next ≡ true → all ≡ onward qs next (i + 1) fs
  grown fs i f ps qs p may next each all e h inv is stands new opens = inv ∙ ap (behind ps) (parts_at fs i f may false e h ∙ ap (λ b. chosen false may b f (drop (i + 1) fs)) (sym is) ∙ ap (option_and_then (before (parts true (drop (i + 1) fs)))) stands) ∙ behind_one ps p (parts true (drop (i + 1) fs)) ∙ ap (λ z. behind z (parts true (drop (i + 1) fs))) (sym new) ∙ ap (λ z. onward qs z (i + 1) fs) (sym opens)

  pub whole : (fs : List Syntax) (i : ℕ) (ps : List Part) (may : Bool) (all : Option (List Part)) → drop i fs ≡ [] → all ≡ onward ps may i fs → all ≡ Some ps
  whole fs i ps may all e inv = inv ∙ ap (λ z. behind ps (parts may z)) e ∙ ap Some (append-nil ps)
