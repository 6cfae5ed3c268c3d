-- What the definition of reading says of a row, from a place on.
-- For: read_row
use Rattle.std.proofs.Common.{◌≡◌, ℕ, ◌+◌, Bool, true, false, List, [], ◌∷◌, ◌++◌, map, drop, refl, ap, sym, ◌∙◌, Option, Some, None, append_assoc, append-nil}
use Rattle.std.specs.Prelude.{slice_get, if◌then◌else◌}
use Rattle.std.specs.Option.{option_map, option_and_then}
use Rattle.ps_pattern.specs.declared.syntax.Syntax.{Syntax, fold-Syntax}
use Rattle.ps_pattern.specs.declared.syntax.SyntaxNode.{map-SyntaxNode, fold-SyntaxNode, out-SyntaxNode}
use Rattle.ps_pattern.specs.declared.syntax.SyntaxNode.TheOpen as o
use Rattle.ps_pattern.specs.declared.rules.Pattern.{Pattern}
use Rattle.ps_pattern.specs.declared.variables.Var.{Var}
use Rattle.ps_pattern.specs.declared.variables.Read.{Read}
use Rattle.ps_pattern.specs.declared.variables.Row.{Row}
use Rattle.ps_pattern.specs.declared.variables.Row.TheVariants.{Plain, Each}
use Rattle.ps_pattern.specs.declared.variables.RowRead.{RowRead}
use Rattle.ps_pattern.specs.Identifiers.{Keys, dots_in, dots_at, is_only}
use Rattle.ps_pattern.specs.Reading.{view, level_view, pattern_of, row_of, row_after, in_front, put_before, lone_each}
use Rattle.ps_pattern.proofs.Trees.{fold_is, opened}
use Rattle.ps_pattern.proofs.Rests.{drop_at}

-- whether a layer is `...` does not depend on what its parts are
pub dots_opened : {A A' B B' : Type 0} (f : A → B) (g : A' → B') (dots : Option ℕ) (y : o.SyntaxNode-F A A') → dots_in dots (map-SyntaxNode A A' B B' f g y) ≡ dots_in dots y
dots_opened f g dots (o.Ident id) = refl
dots_opened f g dots (o.Boolean x) = refl
dots_opened f g dots (o.Integer x) = refl
dots_opened f g dots (o.Char x) = refl
dots_opened f g dots (o.Text x) = refl
dots_opened f g dots (o.List fs) = refl
dots_opened f g dots (o.Dotted fs x) = refl
dots_opened f g dots (o.Vector fs) = refl

pub dots_folded : {A : Type 0} (s : o.SyntaxNode-F A A → A) (dots : Option ℕ) (f : Syntax) → dots_in dots (opened s (out-SyntaxNode f.node)) ≡ dots_at dots f
dots_folded {A} s dots f = dots_opened (fold-SyntaxNode A A s (λ x. x.node)) (fold-Syntax A A s (λ x. x.node)) dots (out-SyntaxNode f.node)

pub front_nothing : (o : Option RowRead) → o ≡ option_map (in_front [] []) o
front_nothing None = refl
front_nothing (Some r) = ap (λ z. Some (record { row = z; vars = r.vars })) (same r.row)
  where
    same : (row : Row) → row ≡ put_before [] row
    same (Plain ps) = refl
    same (Each ps q w) = refl

put_twice : (ps : List Pattern) (p : Pattern) (r : Row) → put_before ps (put_before (p ∷ []) r) ≡ put_before (ps ++ p ∷ []) r
put_twice ps p (Plain qs) = ap Plain (sym (append_assoc ps (p ∷ []) qs))
put_twice ps p (Each qs q w) = ap (λ z. Each z q w) (sym (append_assoc ps (p ∷ []) qs))

pub front_twice : (ps : List Pattern) (vs : List Var) (p : Pattern) (ws : List Var) (rest : Option RowRead) → option_map (in_front ps vs) (option_map (in_front (p ∷ []) ws) rest) ≡ option_map (in_front (ps ++ p ∷ []) (vs ++ ws)) rest
front_twice ps vs p ws None = refl
front_twice ps vs p ws (Some r) = ap (λ z. Some (record { row = z; vars = vs ++ (ws ++ r.vars) })) (put_twice ps p r.row) ∙ ap (λ z. Some (record { row = put_before (ps ++ p ∷ []) r.row; vars = z })) (sym (append_assoc vs ws r.vars))

module _ (dots : Option ℕ) (literals : Keys) where
  pub view_dots : (f : Syntax) → (view dots literals f).is_dots ≡ dots_at dots f
  unfolding view
  view_dots f = ap (λ v. v.is_dots) (fold_is (level_view dots literals) f) ∙ dots_folded (level_view dots literals) dots f

  pub row_dots : (fs : List Syntax) → map (λ y. y.is_dots) (map (view dots literals) fs) ≡ map (dots_at dots) fs
  row_dots [] = refl
  row_dots (f ∷ fs) = ap (λ b. b ∷ map (λ y. y.is_dots) (map (view dots literals) fs)) (view_dots f) ∙ ap (λ bs. dots_at dots f ∷ bs) (row_dots fs)

  module _ (depth : ℕ) where
    abbrev row : List Syntax → Option RowRead
    row fs = row_of dots literals depth fs

    abbrev chosen : Bool → Syntax → List Syntax → Option RowRead
    chosen last f fs = if last then option_map lone_each (pattern_of dots literals f (depth + 1)) else option_and_then (row_after (row fs)) (pattern_of dots literals f depth)

    row_cons : (f : Syntax) (fs : List Syntax) → row (f ∷ fs) ≡ chosen (is_only (map (dots_at dots) fs)) f fs
    unfolding pattern_of
    row_cons f fs = ap (λ bs. chosen (is_only bs) f fs) (row_dots fs)

    row_at : (fs : List Syntax) (i : ℕ) (f : Syntax) (b : Bool) → slice_get fs i ≡ Some f → is_only (map (dots_at dots) (drop (i + 1) fs)) ≡ b → row (drop i fs) ≡ chosen b f (drop (i + 1) fs)
    row_at fs i f b e h = ap row (drop_at fs i f e) ∙ row_cons f (drop (i + 1) fs) ∙ ap (λ z. chosen z f (drop (i + 1) fs)) h

    -- from a place on, behind what stands before it
    abbrev pub onward : List Pattern → List Var → ℕ → List Syntax → Option RowRead
    onward ps vs i fs = option_map (in_front ps vs) (row (drop i fs))

    pub ends_none : (under : ℕ) → under ≡ depth + 1 → (fs : List Syntax) (i : ℕ) (f : Syntax) (ps : List Pattern) (vs : List Var) (all : Option RowRead) → slice_get fs i ≡ Some f → is_only (map (dots_at dots) (drop (i + 1) fs)) ≡ true → all ≡ onward ps vs i fs → pattern_of dots literals f under ≡ None → all ≡ None
    ends_none under deep fs i f ps vs all e h inv is = inv ∙ ap (option_map (in_front ps vs)) (row_at fs i f true e h ∙ ap (option_map lone_each) (ap (pattern_of dots literals f) (sym deep) ∙ is))

    pub ends_each : (under : ℕ) → under ≡ depth + 1 → (fs : List Syntax) (i : ℕ) (f : Syntax) (ps : List Pattern) (vs : List Var) (all : Option RowRead) (r : Read) → slice_get fs i ≡ Some f → is_only (map (dots_at dots) (drop (i + 1) fs)) ≡ true → all ≡ onward ps vs i fs → pattern_of dots literals f under ≡ Some r → all ≡ Some (in_front ps vs (lone_each r))
    ends_each under deep fs i f ps vs all r e h inv is = inv ∙ ap (option_map (in_front ps vs)) (row_at fs i f true e h ∙ ap (option_map lone_each) (ap (pattern_of dots literals f) (sym deep) ∙ is))

    pub passed_none : (fs : List Syntax) (i : ℕ) (f : Syntax) (ps : List Pattern) (vs : List Var) (all : Option RowRead) → slice_get fs i ≡ Some f → is_only (map (dots_at dots) (drop (i + 1) fs)) ≡ false → all ≡ onward ps vs i fs → pattern_of dots literals f depth ≡ None → all ≡ None
    passed_none fs i f ps vs all e h inv is = inv ∙ ap (option_map (in_front ps vs)) (row_at fs i f false e h ∙ ap (option_and_then (row_after (row (drop (i + 1) fs)))) is)

    pub passed : (fs : List Syntax) (i : ℕ) (f : Syntax) (ps qs : List Pattern) (vs ws : List Var) (all : Option RowRead) (r : Read) → slice_get fs i ≡ Some f → is_only (map (dots_at dots) (drop (i + 1) fs)) ≡ false → all ≡ onward ps vs i fs → pattern_of dots literals f depth ≡ Some r → qs ≡ ps ++ r.pattern ∷ [] → ws ≡ vs ++ r.vars → all ≡ onward qs ws (i + 1) fs
    passed fs i f ps qs vs ws all r e h inv is p v =
        inv ∙ ap (option_map (in_front ps vs)) (row_at fs i f false e h ∙ ap (option_and_then (row_after (row (drop (i + 1) fs)))) is)
        ∙ front_twice ps vs r.pattern r.vars (row (drop (i + 1) fs))
        ∙ ap (λ z. option_map (in_front z (vs ++ r.vars)) (row (drop (i + 1) fs))) (sym p)
        ∙ ap (λ z. option_map (in_front qs z) (row (drop (i + 1) fs))) (sym v)

    pub whole : (fs : List Syntax) (i : ℕ) (ps : List Pattern) (vs : List Var) (all : Option RowRead) → drop i fs ≡ [] → all ≡ onward ps vs i fs → all ≡ Some (record { row = Plain ps; vars = vs })
    whole fs i ps vs all e inv = inv ∙ ap (λ z. option_map (in_front ps vs) (row z)) e ∙ ap (λ z. Some (record { row = Plain z; vars = vs ++ [] })) (append-nil ps) ∙ ap (λ z. Some (record { row = Plain ps; vars = z })) (append-nil vs)
