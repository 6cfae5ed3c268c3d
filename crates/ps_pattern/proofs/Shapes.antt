-- What a pattern's variables stand for is as deep as they are.
-- For: matches_shaped, turns_shaped
use Rattle.std.proofs.Common.{◌≡◌, ℕ, ℤ, zero, suc, ◌+◌, Bool, true, false, List, [], ◌∷◌, ◌++◌, length, map, drop, refl, ap, sym, ◌∙◌, subst, Option, Some, None, arith}
use Rattle.std.specs.Prelude.{◌&&◌, ◌==◌, slice_get}
use Rattle.std.specs.Option.{option_and_then}
use Rattle.std.specs.List.{AllByRecursion, range_with_len}
use Rattle.std.proofs.lemmas.Bool.{eqb-true}
use Rattle.ps_pattern.specs.declared.bound.Bound.TheVariants as b
use Rattle.ps_pattern.specs.declared.syntax.Ident.{Ident}
use Rattle.ps_pattern.specs.declared.syntax.Syntax.{Syntax}
use Rattle.ps_pattern.specs.declared.syntax.SyntaxNode.{out-SyntaxNode}
use Rattle.ps_pattern.specs.declared.syntax.SyntaxNode.TheOpen as o
use Rattle.ps_pattern.specs.declared.rules.Pattern.{Pattern, fold-roll-Pattern, roll-Pattern, map-Pattern, ind-Pattern}
use Rattle.ps_pattern.specs.declared.rules.Pattern.TheOpen as u
use Rattle.ps_pattern.specs.Meaning.{nth_bound}
use Rattle.ps_pattern.specs.Matching.{Binds, Literals, Matcher, Node, matched, level_matches, when, both, all, before, collect, column, columns, each, exactly, then_each, list_parts_of, vector_parts_of, chain_parts_of, rest_from, ident_matches, boolean_matches, integer_matches, char_matches, text_matches}
use Rattle.ps_pattern.specs.Fitting.{Extent, extent, level_extent, each_extent, flat, all_told}
use Rattle.ps_pattern.specs.Shapes.{Shaped, AllShaped, IsOne, IsMany, MatchesAreShaped}
use Rattle.ps_pattern.proofs.Rests.{some_is}
use Rattle.ps_pattern.proofs.Fits.{map_some}

-- both halves of a test
pub first_true : (a b : Bool) → (a && b) ≡ true → a ≡ true
first_true true b e = refl
first_true false b e = absurd cc

pub second_true : (a b : Bool) → (a && b) ≡ true → b ≡ true
second_true true b e = e
second_true false b e = absurd cc

when_shaped : (t : Bool) (binds : Binds) → when t ≡ Some binds → AllShaped [] binds
when_shaped true binds e = subst (AllShaped []) (some_is e) tt
when_shaped false binds e = absurd cc

both_parts : (x y : Option Binds) (z : Binds) → both x y ≡ Some z → (a : Binds) × (c : Binds) × (x ≡ Some a) × (y ≡ Some c) × (z ≡ a ++ c)
both_parts None y z e = absurd cc
both_parts (Some a) None z e = absurd cc
both_parts (Some a) (Some c) z e = (a, c, refl, refl, sym (some_is e))

shaped_append : (ds es : List ℕ) (xs ys : Binds) → AllShaped ds xs → AllShaped es ys → AllShaped (ds ++ es) (xs ++ ys)
shaped_append [] es [] ys a c = c
shaped_append [] es (x ∷ xs) ys a c = absurd a
shaped_append (d ∷ ds) es [] ys a c = absurd a
shaped_append (d ∷ ds) es (x ∷ xs) ys a c = (a.0, shaped_append ds es xs ys a.1 c)

shaped_nothing : (ds : List ℕ) (xs ys : Binds) → AllShaped ds xs → AllShaped [] ys → AllShaped ds (xs ++ ys)
shaped_nothing [] [] ys a c = c
shaped_nothing [] (x ∷ xs) ys a c = absurd a
shaped_nothing (d ∷ ds) [] ys a c = absurd a
shaped_nothing (d ∷ ds) (x ∷ xs) ys a c = (a.0, shaped_nothing ds xs ys a.1 c)

-- columns of rows
pub nth_shaped : (ds : List ℕ) (xs : Binds) (i d : ℕ) → AllShaped ds xs → slice_get ds i ≡ Some d → Shaped d (nth_bound i xs)
nth_shaped [] xs i d a e = absurd cc
nth_shaped (e ∷ ds) [] i d a h = absurd a
nth_shaped (e ∷ ds) (x ∷ xs) zero d a h = subst (λ z. Shaped z x) (some_is h) a.0
nth_shaped (e ∷ ds) (x ∷ xs) (suc i) d a h = nth_shaped ds xs i d a.1 h

abbrev AreRows : List ℕ → List Binds → Type 0
AreRows ds rows = AllByRecursion (λ r. AllShaped ds r) rows

nths_shaped : (ds : List ℕ) (rows : List Binds) (i d : ℕ) → AreRows ds rows → slice_get ds i ≡ Some d → AllByRecursion (Shaped d) (map (nth_bound i) rows)
nths_shaped ds [] i d a e = tt
nths_shaped ds (r ∷ rows) i d a e = (nth_shaped ds r i d a.0 e, nths_shaped ds rows i d a.1 e)

column_shaped : (ds : List ℕ) (rows : List Binds) (i d : ℕ) → AreRows ds rows → slice_get ds i ≡ Some d → Shaped (suc d) (column rows i)
column_shaped ds rows i d a e = subst (IsMany (Shaped d)) (sym (b.outs-Many (map (nth_bound i) rows))) (nths_shaped ds rows i d a e)

columns_from : (ds : List ℕ) (rows : List Binds) (k : ℕ) (es : List ℕ) → ((i d : ℕ) → slice_get es i ≡ Some d → Shaped (suc d) (column rows (k + i))) → AllShaped (map suc es) (map (column rows) (range_with_len k (length es)))
columns_from ds rows k [] h = tt
columns_from ds rows k (e ∷ es) h =
    let here : k + 0 ≡ k = omega arith in
    (subst (λ z. Shaped (suc e) (column rows z)) here (h 0 e refl), columns_from ds rows (k + 1) es (λ i d is. let there : k + suc i ≡ k + 1 + i = omega arith in subst (λ z. Shaped (suc d) (column rows z)) there (h (suc i) d is)))

columns_shaped : (ds : List ℕ) (rows : List Binds) (w : ℕ) → AreRows ds rows → w ≡ length ds → AllShaped (map suc ds) (columns w rows)
columns_shaped ds rows w a e = subst (λ z. AllShaped (map suc ds) (columns z rows)) (sym e) (columns_from ds rows 0 ds (λ i d is. let here : i ≡ 0 + i = omega arith in subst (λ z. Shaped (suc d) (column rows z)) here (column_shaped ds rows i d a is)))

module _ (same : Literals) where
  abbrev P : Pattern → Type 0
  P p = (g : Syntax) (binds : Binds) → (extent p).told ≡ true → matched same p g ≡ Some binds → AllShaped (extent p).depths binds

  abbrev extents : List Pattern → List Extent
  extents ps = map extent ps

  abbrev matchers : List Pattern → List Matcher
  matchers ps = map (matched same) ps

  all_shaped : (ps : List Pattern) → AllByRecursion P ps → (fs : List Syntax) (binds : Binds) → all_told (extents ps) ≡ true → all (matchers ps) fs ≡ Some binds → AllShaped (flat (extents ps)) binds
  all_shaped [] h fs binds told e = subst (AllShaped []) (some_is e) tt
  all_shaped (p ∷ ps) h [] binds told e = absurd cc
  all_shaped (p ∷ ps) h (f ∷ fs) binds told e =
      let a : (x : Binds) × (y : Binds) × (matched same p f ≡ Some x) × (all (matchers ps) fs ≡ Some y) × (binds ≡ x ++ y) = both_parts (matched same p f) (all (matchers ps) fs) binds e in
      subst (AllShaped (flat (extents (p ∷ ps)))) (sym a.4) (shaped_append (extent p).depths (flat (extents ps)) a.0 a.1 (h.0 f a.0 (first_true (extent p).told (all_told (extents ps)) told) a.2) (all_shaped ps h.1 fs a.1 (second_true (extent p).told (all_told (extents ps)) told) a.3))

  before_parts : (x : Option Binds) (xs : Option (List Binds)) (z : List Binds) → before x xs ≡ Some z → (a : Binds) × (c : List Binds) × (x ≡ Some a) × (xs ≡ Some c) × (z ≡ a ∷ c)
  before_parts None xs z e = absurd cc
  before_parts (Some x) None z e = absurd cc
  before_parts (Some x) (Some xs) z e = (x, xs, refl, refl, sym (some_is e))

  rows_shaped : (q : Pattern) → P q → (fs : List Syntax) (rows : List Binds) → (extent q).told ≡ true → collect (map (matched same q) fs) ≡ Some rows → AreRows (extent q).depths rows
  rows_shaped q h [] rows told e = subst (AreRows (extent q).depths) (some_is e) tt
  rows_shaped q h (f ∷ fs) rows told e =
      let a : (x : Binds) × (y : List Binds) × (matched same q f ≡ Some x) × (collect (map (matched same q) fs) ≡ Some y) × (rows ≡ x ∷ y) = before_parts (matched same q f) (collect (map (matched same q) fs)) rows e in
      subst (AreRows (extent q).depths) (sym a.4) (h f a.0 told a.2, rows_shaped q h fs a.1 told a.3)

  exactly_shaped : (ps : List Pattern) → AllByRecursion P ps → (fs : Option (List Syntax)) (binds : Binds) → all_told (extents ps) ≡ true → option_and_then (exactly (matchers ps)) fs ≡ Some binds → AllShaped (flat (extents ps)) binds
  exactly_shaped ps h None binds told e = absurd cc
  exactly_shaped ps h (Some fs) binds told e =
      let a : (x : Binds) × (y : Binds) × (all (matchers ps) fs ≡ Some x) × (when (length (matchers ps) == length fs) ≡ Some y) × (binds ≡ x ++ y) = both_parts (all (matchers ps) fs) (when (length (matchers ps) == length fs)) binds e in
      subst (AllShaped (flat (extents ps))) (sym a.4) (shaped_nothing (flat (extents ps)) a.0 a.1 (all_shaped ps h fs a.0 told a.2) (when_shaped (length (matchers ps) == length fs) a.1 a.3))

  each_shaped : (ps : List Pattern) (q : Pattern) (w : ℕ) → AllByRecursion P ps → P q → (fs : Option (List Syntax)) (binds : Binds) → (each_extent (extents ps) (extent q) w).told ≡ true → option_and_then (then_each (matchers ps) (matched same q) w) fs ≡ Some binds → AllShaped (each_extent (extents ps) (extent q) w).depths binds
  each_shaped ps q w h k None binds told e = absurd cc
  each_shaped ps q w h k (Some fs) binds told e =
      let rest : List Syntax = drop (length (matchers ps)) fs in
      let last : ((extent q).told && (w == length (extent q).depths)) ≡ true = second_true (all_told (extents ps)) ((extent q).told && (w == length (extent q).depths)) told in
      let a : (x : Binds) × (y : Binds) × (all (matchers ps) fs ≡ Some x) × (each (matched same q) w rest ≡ Some y) × (binds ≡ x ++ y) = both_parts (all (matchers ps) fs) (each (matched same q) w rest) binds e in
      let c : (rows : List Binds) × (collect (map (matched same q) rest) ≡ Some rows) × (a.1 ≡ columns w rows) = map_some (columns w) (collect (map (matched same q) rest)) a.1 a.3 in
      let front : AllShaped (flat (extents ps)) a.0 = all_shaped ps h fs a.0 (first_true (all_told (extents ps)) ((extent q).told && (w == length (extent q).depths)) told) a.2 in
      let behind : AllShaped (map suc (extent q).depths) (columns w c.0) = columns_shaped (extent q).depths c.0 w (rows_shaped q k rest c.0 (first_true (extent q).told (w == length (extent q).depths) last) c.1) (eqb-true w (length (extent q).depths) (second_true (extent q).told (w == length (extent q).depths) last)) in
      subst (AllShaped (flat (extents ps) ++ map suc (extent q).depths)) (sym a.4) (shaped_append (flat (extents ps)) (map suc (extent q).depths) a.0 a.1 front (subst (AllShaped (map suc (extent q).depths)) (sym c.2) behind))

  dotted_shaped : (ps : List Pattern) (q : Pattern) → AllByRecursion P ps → P q → (fs : Option (List Syntax)) (rest : Syntax) (binds : Binds) → (all_told (extents ps) && (extent q).told) ≡ true → option_and_then (λ fs. both (all (matchers ps) fs) (matched same q rest)) fs ≡ Some binds → AllShaped (flat (extents ps) ++ (extent q).depths) binds
  dotted_shaped ps q h k None rest binds told e = absurd cc
  dotted_shaped ps q h k (Some fs) rest binds told e =
      let a : (x : Binds) × (y : Binds) × (all (matchers ps) fs ≡ Some x) × (matched same q rest ≡ Some y) × (binds ≡ x ++ y) = both_parts (all (matchers ps) fs) (matched same q rest) binds e in
      subst (AllShaped (flat (extents ps) ++ (extent q).depths)) (sym a.4) (shaped_append (flat (extents ps)) (extent q).depths a.0 a.1 (all_shaped ps h fs a.0 (first_true (all_told (extents ps)) (extent q).told told) a.2) (k rest a.1 (second_true (all_told (extents ps)) (extent q).told told) a.3))

  -- patterns without variables
  ident_shaped : (is : Ident → Bool) (x : Node) (binds : Binds) → ident_matches is x ≡ Some binds → AllShaped [] binds
  ident_shaped is (o.Ident id) binds e = when_shaped (is id) binds e
  ident_shaped is (o.Boolean x) binds e = absurd cc
  ident_shaped is (o.Integer x) binds e = absurd cc
  ident_shaped is (o.Char x) binds e = absurd cc
  ident_shaped is (o.Text x) binds e = absurd cc
  ident_shaped is (o.List x) binds e = absurd cc
  ident_shaped is (o.Dotted x y) binds e = absurd cc
  ident_shaped is (o.Vector x) binds e = absurd cc

  boolean_shaped : (k : Bool) (x : Node) (binds : Binds) → boolean_matches k x ≡ Some binds → AllShaped [] binds
  boolean_shaped k (o.Boolean x) binds e = when_shaped _ binds e
  boolean_shaped k (o.Ident x) binds e = absurd cc
  boolean_shaped k (o.Integer x) binds e = absurd cc
  boolean_shaped k (o.Char x) binds e = absurd cc
  boolean_shaped k (o.Text x) binds e = absurd cc
  boolean_shaped k (o.List x) binds e = absurd cc
  boolean_shaped k (o.Dotted x y) binds e = absurd cc
  boolean_shaped k (o.Vector x) binds e = absurd cc

  integer_shaped : (k : ℤ) (x : Node) (binds : Binds) → integer_matches k x ≡ Some binds → AllShaped [] binds
  integer_shaped k (o.Integer x) binds e = when_shaped _ binds e
  integer_shaped k (o.Ident x) binds e = absurd cc
  integer_shaped k (o.Boolean x) binds e = absurd cc
  integer_shaped k (o.Char x) binds e = absurd cc
  integer_shaped k (o.Text x) binds e = absurd cc
  integer_shaped k (o.List x) binds e = absurd cc
  integer_shaped k (o.Dotted x y) binds e = absurd cc
  integer_shaped k (o.Vector x) binds e = absurd cc

  char_shaped : (k : ℕ) (x : Node) (binds : Binds) → char_matches k x ≡ Some binds → AllShaped [] binds
  char_shaped k (o.Char x) binds e = when_shaped _ binds e
  char_shaped k (o.Ident x) binds e = absurd cc
  char_shaped k (o.Boolean x) binds e = absurd cc
  char_shaped k (o.Integer x) binds e = absurd cc
  char_shaped k (o.Text x) binds e = absurd cc
  char_shaped k (o.List x) binds e = absurd cc
  char_shaped k (o.Dotted x y) binds e = absurd cc
  char_shaped k (o.Vector x) binds e = absurd cc

  text_shaped : (k : List ℕ) (x : Node) (binds : Binds) → text_matches k x ≡ Some binds → AllShaped [] binds
  text_shaped k (o.Text x) binds e = when_shaped _ binds e
  text_shaped k (o.Ident x) binds e = absurd cc
  text_shaped k (o.Boolean x) binds e = absurd cc
  text_shaped k (o.Integer x) binds e = absurd cc
  text_shaped k (o.Char x) binds e = absurd cc
  text_shaped k (o.List x) binds e = absurd cc
  text_shaped k (o.Dotted x y) binds e = absurd cc
  text_shaped k (o.Vector x) binds e = absurd cc

  -- the parts of a layer
  abbrev Parts : u.Pattern-F Pattern → Type 0
  Parts u.Ignored = Unit {0}
  Parts u.Variable = Unit {0}
  Parts (u.Literal x) = Unit {0}
  Parts (u.Boolean x) = Unit {0}
  Parts (u.Integer x) = Unit {0}
  Parts (u.Char x) = Unit {0}
  Parts (u.Text x) = Unit {0}
  Parts (u.List ps) = AllByRecursion P ps
  Parts (u.ListEach ps q w) = AllByRecursion P ps × P q
  Parts (u.Dotted ps q) = AllByRecursion P ps × P q
  Parts (u.Vector ps) = AllByRecursion P ps
  Parts (u.VectorEach ps q w) = AllByRecursion P ps × P q

  abbrev first : ((p : Pattern) × P p) → Pattern
  first e = e.0

  every : (es : List ((p : Pattern) × P p)) → AllByRecursion P (map first es)
  every [] = tt
  every (e ∷ es) = (e.1, every es)

  parts_of : (y : u.Pattern-F ((p : Pattern) × P p)) → Parts (map-Pattern ((p : Pattern) × P p) Pattern first y)
  parts_of u.Ignored = tt
  parts_of u.Variable = tt
  parts_of (u.Literal x) = tt
  parts_of (u.Boolean x) = tt
  parts_of (u.Integer x) = tt
  parts_of (u.Char x) = tt
  parts_of (u.Text x) = tt
  parts_of (u.List ps) = every ps
  parts_of (u.ListEach ps q w) = (every ps, q.1)
  parts_of (u.Dotted ps q) = (every ps, q.1)
  parts_of (u.Vector ps) = every ps
  parts_of (u.VectorEach ps q w) = (every ps, q.1)

  abbrev layer : u.Pattern-F Pattern → Extent
  layer x = level_extent (map-Pattern Pattern Extent extent x)

  abbrev matches : u.Pattern-F Pattern → Matcher
  matches x = level_matches same (map-Pattern Pattern Matcher (matched same) x)

  shape : (x : u.Pattern-F Pattern) → Parts x → (g : Syntax) (binds : Binds) → (layer x).told ≡ true → matches x g ≡ Some binds → AllShaped (layer x).depths binds
  shape u.Ignored h g binds told e = subst (AllShaped []) (some_is e) tt
  shape u.Variable h g binds told e = subst (AllShaped (0 ∷ [])) (some_is e) (subst IsOne (sym (b.outs-One g)) tt, tt)
  shape (u.Literal id) h g binds told e = ident_shaped (same id) (out-SyntaxNode g.node) binds e
  shape (u.Boolean x) h g binds told e = boolean_shaped x (out-SyntaxNode g.node) binds e
  shape (u.Integer x) h g binds told e = integer_shaped x (out-SyntaxNode g.node) binds e
  shape (u.Char x) h g binds told e = char_shaped x (out-SyntaxNode g.node) binds e
  shape (u.Text x) h g binds told e = text_shaped x (out-SyntaxNode g.node) binds e
  shape (u.List ps) h g binds told e = exactly_shaped ps h (list_parts_of (out-SyntaxNode g.node)) binds told e
  shape (u.ListEach ps q w) h g binds told e = each_shaped ps q w h.0 h.1 (list_parts_of (out-SyntaxNode g.node)) binds told e
  shape (u.Dotted ps q) h g binds told e = dotted_shaped ps q h.0 h.1 (chain_parts_of (out-SyntaxNode g.node)) (rest_from g.place (length (matchers ps)) (out-SyntaxNode g.node)) binds told e
  shape (u.Vector ps) h g binds told e = exactly_shaped ps h (vector_parts_of (out-SyntaxNode g.node)) binds told e
  shape (u.VectorEach ps q w) h g binds told e = each_shaped ps q w h.0 h.1 (vector_parts_of (out-SyntaxNode g.node)) binds told e

  extent_is : (x : u.Pattern-F Pattern) → extent (roll-Pattern x) ≡ layer x
  unfolding extent
  extent_is x = fold-roll-Pattern Extent level_extent x

  matched_is : (x : u.Pattern-F Pattern) (g : Syntax) → matched same (roll-Pattern x) g ≡ matches x g
  unfolding matched
  matched_is x g = ap (λ (h : Matcher). h g) (fold-roll-Pattern Matcher (level_matches same) x)

  rolled : (x : u.Pattern-F Pattern) → Parts x → P (roll-Pattern x)
  rolled x h g binds told e = subst (λ z. AllShaped z.depths binds) (sym (extent_is x)) (shape x h g binds (sym (ap (λ z. z.told) (extent_is x)) ∙ told) (sym (matched_is x g) ∙ e))

  pub all_patterns : (p : Pattern) → P p
  all_patterns = ind-Pattern P (λ x y is. subst (λ z. P (roll-Pattern z)) is (rolled (map-Pattern ((p : Pattern) × P p) Pattern first y) (parts_of y)))

pub matches_are_shaped : MatchesAreShaped
matches_are_shaped same p g binds told e = all_patterns same p g binds told e
