-- What the definition of matching says of the patterns with parts.
-- For: matches
use Rattle.std.proofs.Common.{◌≡◌, ℕ, List, map, length, drop, ap, sym, ◌∙◌, subst, Option, Some, IfOk}
use Rattle.std.specs.Prelude.{Result}
use Rattle.std.proofs.lemmas.List.{length-map}
use Rattle.std.specs.Option.{option_map}
use Rattle.std.specs.Option.{option_and_then}
use Rattle.ps_pattern.specs.declared.syntax.Syntax.{Syntax}
use Rattle.ps_pattern.specs.declared.syntax.SyntaxNode.{out-SyntaxNode}
use Rattle.ps_pattern.specs.declared.rules.Pattern.{Pattern, fold-roll-Pattern}
use Rattle.ps_pattern.specs.declared.rules.Pattern.TheVariants as k
use Rattle.ps_pattern.specs.declared.rules.Pattern.TheOpen as p
use Rattle.ps_pattern.specs.Matching.{Literals, Matcher, matched, level_matches, exactly, then_each, both, all, columns, collect, Binds, list_parts_of, vector_parts_of, chain_parts_of, rest_from}

module _ (same : Literals) (f : Syntax) where
  pub matched_list : (ps : List Pattern) → matched same (k.List ps) f ≡ option_and_then (exactly (map (matched same) ps)) (list_parts_of (out-SyntaxNode f.node))
  unfolding matched
  matched_list ps = ap (λ q. matched same q f) (sym (k.rolls-List ps)) ∙ ap (λ (h : Matcher). h f) (fold-roll-Pattern Matcher (level_matches same) (p.List ps))

  pub matched_vector : (ps : List Pattern) → matched same (k.Vector ps) f ≡ option_and_then (exactly (map (matched same) ps)) (vector_parts_of (out-SyntaxNode f.node))
  unfolding matched
  matched_vector ps = ap (λ q. matched same q f) (sym (k.rolls-Vector ps)) ∙ ap (λ (h : Matcher). h f) (fold-roll-Pattern Matcher (level_matches same) (p.Vector ps))

  pub matched_list_each : (ps : List Pattern) (q : Pattern) (w : ℕ) → matched same (k.ListEach ps q w) f ≡ option_and_then (then_each (map (matched same) ps) (matched same q) w) (list_parts_of (out-SyntaxNode f.node))
  unfolding matched
  matched_list_each ps q w = ap (λ q. matched same q f) (sym (k.rolls-ListEach ps q w)) ∙ ap (λ (h : Matcher). h f) (fold-roll-Pattern Matcher (level_matches same) (p.ListEach ps q w))

  pub matched_vector_each : (ps : List Pattern) (q : Pattern) (w : ℕ) → matched same (k.VectorEach ps q w) f ≡ option_and_then (then_each (map (matched same) ps) (matched same q) w) (vector_parts_of (out-SyntaxNode f.node))
  unfolding matched
  matched_vector_each ps q w = ap (λ q. matched same q f) (sym (k.rolls-VectorEach ps q w)) ∙ ap (λ (h : Matcher). h f) (fold-roll-Pattern Matcher (level_matches same) (p.VectorEach ps q w))

  pub matched_dotted : (ps : List Pattern) (q : Pattern) → matched same (k.Dotted ps q) f ≡ option_and_then (λ fs. both (all (map (matched same) ps) fs) (matched same q (rest_from f.place (length (map (matched same) ps)) (out-SyntaxNode f.node)))) (chain_parts_of (out-SyntaxNode f.node))
  unfolding matched
  matched_dotted ps q = ap (λ q. matched same q f) (sym (k.rolls-Dotted ps q)) ∙ ap (λ (h : Matcher). h f) (fold-roll-Pattern Matcher (level_matches same) (p.Dotted ps q))

pub answer : {E : Type 0} (r : Result (Option Binds) E) (z z' : Option Binds) → IfOk r (λ x. x ≡ z) → z ≡ z' → IfOk r (λ x. x ≡ z')
answer r z z' is e = subst (λ y. IfOk r (λ x. x ≡ y)) e is

module _ (same : Literals) (f : Syntax) where
  pub list_case : {E : Type 0} (p : Pattern) (ps qs : List Pattern) (fs : List Syntax) (r : Result (Option Binds) E) → p ≡ k.List ps → qs ≡ ps → list_parts_of (out-SyntaxNode f.node) ≡ Some fs → IfOk r (λ x. x ≡ exactly (map (matched same) qs) fs) → IfOk r (λ x. x ≡ matched same p f)
  list_case p ps qs fs r a b d e = answer r _ _ e (ap (λ z. exactly (map (matched same) z) fs) b ∙ sym (ap (λ z. matched same z f) a ∙ matched_list same f ps ∙ ap (option_and_then (exactly (map (matched same) ps))) d))

  pub vector_case : {E : Type 0} (p : Pattern) (ps qs : List Pattern) (fs : List Syntax) (r : Result (Option Binds) E) → p ≡ k.Vector ps → qs ≡ ps → vector_parts_of (out-SyntaxNode f.node) ≡ Some fs → IfOk r (λ x. x ≡ exactly (map (matched same) qs) fs) → IfOk r (λ x. x ≡ matched same p f)
  vector_case p ps qs fs r a b d e = answer r _ _ e (ap (λ z. exactly (map (matched same) z) fs) b ∙ sym (ap (λ z. matched same z f) a ∙ matched_vector same f ps ∙ ap (option_and_then (exactly (map (matched same) ps))) d))

  each_path : (ps : List Pattern) (q : Pattern) (w : ℕ) (fs : List Syntax) (front : Binds) (more : Option Binds) (rows : Option (List Binds)) → all (map (matched same) ps) fs ≡ Some front → rows ≡ collect (map (matched same q) (drop (length ps) fs)) → more ≡ option_map (columns w) rows → both (Some front) more ≡ then_each (map (matched same) ps) (matched same q) w fs
  each_path ps q w fs front more rows a b d = ap (λ z. both z more) (sym a) ∙ ap (both (all (map (matched same) ps) fs)) (d ∙ ap (option_map (columns w)) (b ∙ ap (λ n. collect (map (matched same q) (drop n fs))) (sym (length-map ps (matched same)))))

  pub list_each_path : (p : Pattern) (ps : List Pattern) (q : Pattern) (w : ℕ) (fs : List Syntax) (front : Binds) (more : Option Binds) (rows : Option (List Binds)) → p ≡ k.ListEach ps q w → list_parts_of (out-SyntaxNode f.node) ≡ Some fs → all (map (matched same) ps) fs ≡ Some front → rows ≡ collect (map (matched same q) (drop (length ps) fs)) → more ≡ option_map (columns w) rows → both (Some front) more ≡ matched same p f
  list_each_path p ps q w fs front more rows a h b d e = each_path ps q w fs front more rows b d e ∙ sym (ap (λ z. matched same z f) a ∙ matched_list_each same f ps q w ∙ ap (option_and_then (then_each (map (matched same) ps) (matched same q) w)) h)

  pub vector_each_path : (p : Pattern) (ps : List Pattern) (q : Pattern) (w : ℕ) (fs : List Syntax) (front : Binds) (more : Option Binds) (rows : Option (List Binds)) → p ≡ k.VectorEach ps q w → vector_parts_of (out-SyntaxNode f.node) ≡ Some fs → all (map (matched same) ps) fs ≡ Some front → rows ≡ collect (map (matched same q) (drop (length ps) fs)) → more ≡ option_map (columns w) rows → both (Some front) more ≡ matched same p f
  vector_each_path p ps q w fs front more rows a h b d e = each_path ps q w fs front more rows b d e ∙ sym (ap (λ z. matched same z f) a ∙ matched_vector_each same f ps q w ∙ ap (option_and_then (then_each (map (matched same) ps) (matched same q) w)) h)

  pub dotted_path : (p : Pattern) (ps : List Pattern) (q : Pattern) (fs : List Syntax) (front : Binds) (more : Option Binds) (rest : Syntax) → p ≡ k.Dotted ps q → chain_parts_of (out-SyntaxNode f.node) ≡ Some fs → all (map (matched same) ps) fs ≡ Some front → rest ≡ rest_from f.place (length ps) (out-SyntaxNode f.node) → more ≡ matched same q rest → both (Some front) more ≡ matched same p f
  dotted_path p ps q fs front more rest a h b d e =
      ap (λ z. both z more) (sym b) ∙ ap (both (all (map (matched same) ps) fs)) (e ∙ ap (matched same q) (d ∙ ap (λ n. rest_from f.place n (out-SyntaxNode f.node)) (sym (length-map ps (matched same)))))
      ∙ sym (ap (λ z. matched same z f) a ∙ matched_dotted same f ps q ∙ ap (option_and_then (λ gs. both (all (map (matched same) ps) gs) (matched same q (rest_from f.place (length (map (matched same) ps)) (out-SyntaxNode f.node))))) h)
