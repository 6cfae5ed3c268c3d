-- What is read as a pattern has the extent that its variables tell.
-- For: rules_fit
use Rattle.std.proofs.Common.{◌≡◌, ℕ, suc, ◌+◌, Bool, true, false, List, [], ◌∷◌, ◌++◌, length, map, refl, ap, sym, ◌∙◌, subst, Option, Some, None, rules, arith, append_assoc, eq-eqb}
use Rattle.std.specs.Prelude.{if◌then◌else◌, ◌&&◌}
use Rattle.std.specs.Option.{option_map, option_and_then}
use Rattle.std.specs.List.{AllByRecursion}
use Rattle.std.proofs.lemmas.List.{length-map}
use Rattle.ps_pattern.specs.declared.syntax.Ident.{Ident}
use Rattle.ps_base.specs.declared.faults.Place.{Place}
use Rattle.ps_pattern.specs.declared.syntax.Syntax.{Syntax, roll-Syntax}
use Rattle.ps_pattern.specs.declared.syntax.SyntaxNode.{SyntaxNode, out-SyntaxNode}
use Rattle.ps_pattern.specs.declared.syntax.SyntaxNode.TheVariants as n
use Rattle.ps_pattern.specs.declared.syntax.SyntaxNode.TheOpen as o
use Rattle.ps_pattern.specs.declared.rules.Pattern.{Pattern, fold-roll-Pattern, roll-Pattern, map-Pattern}
use Rattle.ps_pattern.specs.declared.rules.Pattern.TheVariants as p
use Rattle.ps_pattern.specs.declared.rules.Pattern.TheOpen as u
use Rattle.ps_pattern.specs.declared.variables.Var.{Var}
use Rattle.ps_pattern.specs.declared.variables.Read.{Read}
use Rattle.ps_pattern.specs.declared.variables.Row.{Row}
use Rattle.ps_pattern.specs.declared.variables.Row.TheVariants.{Plain, Each}
use Rattle.ps_pattern.specs.declared.variables.RowRead.{RowRead}
use Rattle.ps_pattern.specs.Identifiers.{Keys, is_named, among, is_only}
use Rattle.ps_pattern.specs.Reading.{View, view, level_view, level_read, row_read, row_after, in_front, put_before, lone_each, list_read, vector_read, list_row, vector_row, dotted_read, dotted_row, variable, bare, behind_first}
use Rattle.ps_pattern.specs.Fitting.{Extent, extent, level_extent, row_extent, each_extent, flat, all_told, none}
use Rattle.ps_pattern.proofs.Rests.{some_is}
use Rattle.ps_pattern.proofs.Trees.{induction, fold_by, opened}
use Rattle.ps_pattern.proofs.Fits.{then_some, map_some}

-- the rows of the definition of the extent
by : (x : u.Pattern-F Pattern) (q : Pattern) → roll-Pattern x ≡ q → extent q ≡ level_extent (map-Pattern Pattern Extent extent x)
unfolding extent
by x q e = ap extent (sym e) ∙ fold-roll-Pattern Extent level_extent x

abbrev extents : List Pattern → List Extent
extents ps = map extent ps

-- the extent of what a row becomes
abbrev pub row : Row → Extent
row (Plain ps) = row_extent (extents ps)
row (Each ps q w) = each_extent (extents ps) (extent q) w

list_extent : (r : Row) → extent (list_row r) ≡ row r
list_extent (Plain ps) = by (u.List ps) (p.List ps) (p.rolls-List ps)
list_extent (Each ps q w) = by (u.ListEach ps q w) (p.ListEach ps q w) (p.rolls-ListEach ps q w)

vector_extent : (r : Row) → extent (vector_row r) ≡ row r
vector_extent (Plain ps) = by (u.Vector ps) (p.Vector ps) (p.rolls-Vector ps)
vector_extent (Each ps q w) = by (u.VectorEach ps q w) (p.VectorEach ps q w) (p.rolls-VectorEach ps q w)

-- variables stand under so many ellipses, of which this many are around all of them
abbrev pub lifted : ℕ → List ℕ → List ℕ
lifted depth ds = map (λ d. d + depth) ds

abbrev pub depths : List Var → List ℕ
depths vs = map (λ v. v.depth) vs

pub record Agrees (depth : ℕ) (vs : List Var) (x : Extent) : Type 0 where
  pub depths_are : depths vs ≡ lifted depth x.depths
  pub told : x.told ≡ true

map_append : {A B : Type 0} (f : A → B) (xs ys : List A) → map f (xs ++ ys) ≡ map f xs ++ map f ys
map_append f [] ys = refl
map_append f (x ∷ xs) ys = ap (λ z. f x ∷ z) (map_append f xs ys)

lifted_more : (depth : ℕ) (ds : List ℕ) → lifted (depth + 1) ds ≡ lifted depth (map suc ds)
lifted_more depth [] = refl
lifted_more depth (d ∷ ds) = let one : d + (depth + 1) ≡ suc d + depth = omega arith in ap (λ z. z ∷ lifted (depth + 1) ds) one ∙ ap (λ z. (suc d + depth) ∷ z) (lifted_more depth ds)

both_true : (a b : Bool) → a ≡ true → b ≡ true → (a && b) ≡ true
both_true a b e h = ap (λ z. z && b) e ∙ h

append_agrees : (depth : ℕ) (vs ws : List Var) (ds es : List ℕ) → depths vs ≡ lifted depth ds → depths ws ≡ lifted depth es → depths (vs ++ ws) ≡ lifted depth (ds ++ es)
append_agrees depth vs ws ds es e h = map_append (λ v. v.depth) vs ws ∙ ap (λ z. z ++ depths ws) e ∙ ap (λ z. lifted depth ds ++ z) h ∙ sym (map_append (λ d. d + depth) ds es)

lone_agrees : (depth : ℕ) (r : Read) → Agrees (depth + 1) r.vars (extent r.pattern) → Agrees depth r.vars (each_extent [] (extent r.pattern) (length r.vars))
lone_agrees depth r a =
    let same : length r.vars ≡ length (extent r.pattern).depths = sym (length-map r.vars (λ v. v.depth)) ∙ ap length a.depths_are ∙ length-map (extent r.pattern).depths (λ d. d + (depth + 1)) in
    record { depths_are = a.depths_are ∙ lifted_more depth (extent r.pattern).depths; told = both_true (extent r.pattern).told _ a.told (eq-eqb (length r.vars) (length (extent r.pattern).depths) same) }

-- a pattern more in front of a row
front_agrees : (depth : ℕ) (q : Pattern) (vs : List Var) (r : RowRead) → Agrees depth vs (extent q) → Agrees depth r.vars (row r.row) → Agrees depth (vs ++ r.vars) (row (put_before (q ∷ []) r.row))
front_agrees depth q vs r a b = go r.row b
  where
    go : (x : Row) → Agrees depth r.vars (row x) → Agrees depth (vs ++ r.vars) (row (put_before (q ∷ []) x))
    go (Plain ps) b = record { depths_are = append_agrees depth vs r.vars (extent q).depths (flat (extents ps)) a.depths_are b.depths_are; told = both_true (extent q).told (all_told (extents ps)) a.told b.told }
    go (Each ps y w) b = record {
      depths_are = append_agrees depth vs r.vars (extent q).depths (flat (extents ps) ++ map suc (extent y).depths) a.depths_are b.depths_are ∙ ap (lifted depth) (sym (append_assoc (extent q).depths (flat (extents ps)) (map suc (extent y).depths)));
      told = search (rules, a.told, b.told);
    }

abbrev Good : View → Type 0
Good v = (depth : ℕ) (r : Read) → v.read depth ≡ Some r → Agrees depth r.vars (extent r.pattern)

abbrev GoodRow : ℕ → List View → Type 0
GoodRow depth xs = (r : RowRead) → row_read depth xs ≡ Some r → Agrees depth r.vars (row r.row)

row_step : (depth : ℕ) (v : View) (xs : List View) → Good v → GoodRow depth xs → (last : Bool) (r : RowRead) → (if last then option_map lone_each (v.read (depth + 1)) else option_and_then (row_after (row_read depth xs)) (v.read depth)) ≡ Some r → Agrees depth r.vars (row r.row)
row_step depth v xs good rest true r e =
    let a : (x : Read) × (v.read (depth + 1) ≡ Some x) × (r ≡ lone_each x) = map_some lone_each (v.read (depth + 1)) r e in
    subst (λ z. Agrees depth z.vars (row z.row)) (sym a.2) (lone_agrees depth a.0 (good (depth + 1) a.0 a.1))
row_step depth v xs good rest false r e =
    let a : (x : Read) × (v.read depth ≡ Some x) × (row_after (row_read depth xs) x ≡ Some r) = then_some (row_after (row_read depth xs)) (v.read depth) r e in
    let b : (y : RowRead) × (row_read depth xs ≡ Some y) × (r ≡ in_front (a.0.pattern ∷ []) a.0.vars y) = map_some (in_front (a.0.pattern ∷ []) a.0.vars) (row_read depth xs) r a.2 in
    subst (λ z. Agrees depth z.vars (row z.row)) (sym b.2) (front_agrees depth a.0.pattern a.0.vars b.0 (good depth a.0 a.1) (rest b.0 b.1))

bare_agrees : (depth : ℕ) (q : Pattern) (r : Read) → extent q ≡ none → bare q ≡ Some r → Agrees depth r.vars (extent r.pattern)
bare_agrees depth q r e is = subst (λ z. Agrees depth z.vars (extent z.pattern)) (some_is is) (subst (λ z. Agrees depth [] z) (sym e) (record { depths_are = refl; told = refl }))

variable_agrees : (depth : ℕ) (id : Ident) → Agrees depth (record { id = id; depth = depth } ∷ []) (extent p.Variable)
variable_agrees depth id = let one : depth ≡ 0 + depth = omega arith in subst (λ z. Agrees depth (record { id = id; depth = depth } ∷ []) z) (sym (by u.Variable p.Variable p.rolls-Variable)) (record { depths_are = ap (λ z. z ∷ []) one; told = refl })

ident_agrees : (dots among : Bool) (id : Ident) (depth : ℕ) (r : Read) → (if dots then None else if among then bare (p.Literal id) else Some (variable id depth)) ≡ Some r → Agrees depth r.vars (extent r.pattern)
ident_agrees true among id depth r e = absurd cc
ident_agrees false true id depth r e = bare_agrees depth (p.Literal id) r (by (u.Literal id) (p.Literal id) (p.rolls-Literal id)) e
ident_agrees false false id depth r e = subst (λ z. Agrees depth z.vars (extent z.pattern)) (some_is e) (variable_agrees depth id)

dotted_agrees : (depth : ℕ) (x : Row) (vs : List Var) (last r : Read) → Agrees depth vs (row x) → Agrees depth last.vars (extent last.pattern) → dotted_row x vs last ≡ Some r → Agrees depth r.vars (extent r.pattern)
dotted_agrees depth (Plain ps) vs last r a b e = subst (λ z. Agrees depth z.vars (extent z.pattern)) (some_is e) (subst (λ z. Agrees depth (vs ++ last.vars) z) (sym (by (u.Dotted ps last.pattern) (p.Dotted ps last.pattern) (p.rolls-Dotted ps last.pattern))) (record { depths_are = append_agrees depth vs last.vars (flat (extents ps)) (extent last.pattern).depths a.depths_are b.depths_are; told = both_true (all_told (extents ps)) (extent last.pattern).told a.told b.told }))
dotted_agrees depth (Each ps q w) vs last r a b e = absurd cc

pub list_agrees : (depth : ℕ) (x : RowRead) (r : Read) → Agrees depth x.vars (row x.row) → r ≡ list_read x → Agrees depth r.vars (extent r.pattern)
list_agrees depth x r a e = subst (λ z. Agrees depth z.vars (extent z.pattern)) (sym e) (subst (λ z. Agrees depth x.vars z) (sym (list_extent x.row)) a)

vector_agrees : (depth : ℕ) (x : RowRead) (r : Read) → Agrees depth x.vars (row x.row) → r ≡ vector_read x → Agrees depth r.vars (extent r.pattern)
vector_agrees depth x r a e = subst (λ z. Agrees depth z.vars (extent z.pattern)) (sym e) (subst (λ z. Agrees depth x.vars z) (sym (vector_extent x.row)) a)

module _ (dots : Option ℕ) (literals : Keys) where
  abbrev P : Syntax → Type 0
  P f = Good (view dots literals f)

  row_good : (fs : List Syntax) → AllByRecursion P fs → (depth : ℕ) → GoodRow depth (map (view dots literals) fs)
  row_good [] all depth r e = subst (λ z. Agrees depth z.vars (row z.row)) (some_is e) (record { depths_are = refl; told = refl })
  row_good (f ∷ fs) all depth r e = row_step depth (view dots literals f) (map (view dots literals) fs) all.0 (row_good fs all.1 depth) (is_only (map (λ y. y.is_dots) (map (view dots literals) fs))) r e

  abbrev Q : SyntaxNode → Type 0
  Q x = (at : Place) → P (roll-Syntax (record { place = at; node = x }))

  read_by : (at : Place) (x : SyntaxNode) (y : o.SyntaxNode-F SyntaxNode Syntax) → out-SyntaxNode x ≡ y → (view dots literals (roll-Syntax (record { place = at; node = x }))).read ≡ level_read dots literals (opened (level_view dots literals) y)
  unfolding view
  read_by at x y is = ap (λ v. v.read) (fold_by (level_view dots literals) (roll-Syntax (record { place = at; node = x })) y is)

  good_by : (at : Place) (x : SyntaxNode) (y : o.SyntaxNode-F SyntaxNode Syntax) → out-SyntaxNode x ≡ y → ((depth : ℕ) (r : Read) → level_read dots literals (opened (level_view dots literals) y) depth ≡ Some r → Agrees depth r.vars (extent r.pattern)) → P (roll-Syntax (record { place = at; node = x }))
  good_by at x y is h depth r e = h depth r (ap (λ g. g depth) (sym (read_by at x y is)) ∙ e)

  list_good : (fs : List Syntax) → AllByRecursion P fs → (depth : ℕ) (r : Read) → option_map list_read (row_read depth (map (view dots literals) fs)) ≡ Some r → Agrees depth r.vars (extent r.pattern)
  list_good fs all depth r e =
      let a : (x : RowRead) × (row_read depth (map (view dots literals) fs) ≡ Some x) × (r ≡ list_read x) = map_some list_read (row_read depth (map (view dots literals) fs)) r e in
      list_agrees depth a.0 r (row_good fs all depth a.0 a.1) a.2

  vector_good : (fs : List Syntax) → AllByRecursion P fs → (depth : ℕ) (r : Read) → option_map vector_read (row_read depth (map (view dots literals) fs)) ≡ Some r → Agrees depth r.vars (extent r.pattern)
  vector_good fs all depth r e =
      let a : (x : RowRead) × (row_read depth (map (view dots literals) fs) ≡ Some x) × (r ≡ vector_read x) = map_some vector_read (row_read depth (map (view dots literals) fs)) r e in
      vector_agrees depth a.0 r (row_good fs all depth a.0 a.1) a.2

  dotted_good : (fs : List Syntax) (f : Syntax) → AllByRecursion P fs → P f → (depth : ℕ) (r : Read) → option_and_then (dotted_read ((view dots literals f).read depth)) (row_read depth (map (view dots literals) fs)) ≡ Some r → Agrees depth r.vars (extent r.pattern)
  dotted_good fs f all good depth r e =
      let a : (x : RowRead) × (row_read depth (map (view dots literals) fs) ≡ Some x) × (dotted_read ((view dots literals f).read depth) x ≡ Some r) = then_some (dotted_read ((view dots literals f).read depth)) (row_read depth (map (view dots literals) fs)) r e in
      let b : (y : Read) × ((view dots literals f).read depth ≡ Some y) × (dotted_row a.0.row a.0.vars y ≡ Some r) = then_some (dotted_row a.0.row a.0.vars) ((view dots literals f).read depth) r a.2 in
      dotted_agrees depth a.0.row a.0.vars b.0 r (row_good fs all depth a.0 a.1) (good depth b.0 b.1) b.2

  pub all_good : (f : Syntax) → P f
  unfolding view
  all_good = induction Q P
      (λ b at. good_by at (n.Boolean b) (o.Boolean b) (n.outs-Boolean b) (λ depth r e. bare_agrees depth (p.Boolean b) r (by (u.Boolean b) (p.Boolean b) (p.rolls-Boolean b)) e))
      (λ b at. good_by at (n.Integer b) (o.Integer b) (n.outs-Integer b) (λ depth r e. bare_agrees depth (p.Integer b) r (by (u.Integer b) (p.Integer b) (p.rolls-Integer b)) e))
      (λ b at. good_by at (n.Char b) (o.Char b) (n.outs-Char b) (λ depth r e. bare_agrees depth (p.Char b) r (by (u.Char b) (p.Char b) (p.rolls-Char b)) e))
      (λ b at. good_by at (n.Text b) (o.Text b) (n.outs-Text b) (λ depth r e. bare_agrees depth (p.Text b) r (by (u.Text b) (p.Text b) (p.rolls-Text b)) e))
      (λ id at. good_by at (n.Ident id) (o.Ident id) (n.outs-Ident id) (λ depth r e. ident_agrees (is_named dots id) (among id literals) id depth r e))
      (λ fs all at. good_by at (n.List fs) (o.List fs) (n.outs-List fs) (list_good fs all))
      (λ fs f all good at. good_by at (n.Dotted fs f) (o.Dotted fs f) (n.outs-Dotted fs f) (dotted_good fs f all good))
      (λ fs all at. good_by at (n.Vector fs) (o.Vector fs) (n.outs-Vector fs) (vector_good fs all))
      (λ at x h. h at)

  every_good : (fs : List Syntax) → AllByRecursion P fs
  every_good [] = tt
  every_good (f ∷ fs) = (all_good f, every_good fs)

  -- a whole pattern
  first_agrees : (x : RowRead) → Agrees 0 x.vars (row x.row) → Agrees 0 (behind_first x).vars (row (behind_first x).row)
  first_agrees x a = front_agrees 0 p.Ignored [] x (subst (λ z. Agrees 0 [] z) (sym (by u.Ignored p.Ignored p.rolls-Ignored)) (record { depths_are = refl; told = refl })) a

  whole_row : (fs : List Syntax) (x : RowRead) → option_map behind_first (row_read 0 (map (view dots literals) fs)) ≡ Some x → Agrees 0 x.vars (row x.row)
  whole_row fs x e =
      let a : (y : RowRead) × (row_read 0 (map (view dots literals) fs) ≡ Some y) × (x ≡ behind_first y) = map_some behind_first (row_read 0 (map (view dots literals) fs)) x e in
      subst (λ z. Agrees 0 z.vars (row z.row)) (sym a.2) (first_agrees a.0 (row_good fs (every_good fs) 0 a.0 a.1))

  pub whole_list : (fs : List Syntax) (r : Read) → option_map list_read (option_map behind_first (row_read 0 (map (view dots literals) fs))) ≡ Some r → Agrees 0 r.vars (extent r.pattern)
  whole_list fs r e =
      let a : (x : RowRead) × (option_map behind_first (row_read 0 (map (view dots literals) fs)) ≡ Some x) × (r ≡ list_read x) = map_some list_read (option_map behind_first (row_read 0 (map (view dots literals) fs))) r e in
      list_agrees 0 a.0 r (whole_row fs a.0 a.1) a.2

  pub whole_dotted : (fs : List Syntax) (f : Syntax) (r : Read) → option_and_then (dotted_read ((view dots literals f).read 0)) (option_map behind_first (row_read 0 (map (view dots literals) fs))) ≡ Some r → Agrees 0 r.vars (extent r.pattern)
  whole_dotted fs f r e =
      let a : (x : RowRead) × (option_map behind_first (row_read 0 (map (view dots literals) fs)) ≡ Some x) × (dotted_read ((view dots literals f).read 0) x ≡ Some r) = then_some (dotted_read ((view dots literals f).read 0)) (option_map behind_first (row_read 0 (map (view dots literals) fs))) r e in
      let b : (y : Read) × ((view dots literals f).read 0 ≡ Some y) × (dotted_row a.0.row a.0.vars y ≡ Some r) = then_some (dotted_row a.0.row a.0.vars) ((view dots literals f).read 0) r a.2 in
      dotted_agrees 0 a.0.row a.0.vars b.0 r (whole_row fs a.0 a.1) (all_good f 0 b.0 b.1) b.2
