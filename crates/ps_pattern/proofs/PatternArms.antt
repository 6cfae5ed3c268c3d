-- What is read of a list, a vector and a dotted list.
-- For: read_pattern
use Rattle.std.proofs.Common.{◌≡◌, ℕ, List, ap, sym, ◌∙◌, subst, Option, Some, IfOk}
use Rattle.std.specs.Prelude.{Result}
use Rattle.std.specs.Option.{option_map, option_and_then}
use Rattle.ps_pattern.specs.declared.syntax.Syntax.{Syntax}
use Rattle.ps_pattern.specs.declared.syntax.SyntaxNode.{out-SyntaxNode}
use Rattle.ps_pattern.specs.declared.syntax.SyntaxNode.TheVariants as n
use Rattle.ps_pattern.specs.declared.syntax.SyntaxNode.TheOpen as o
use Rattle.ps_pattern.specs.declared.variables.Read.{Read}
use Rattle.ps_pattern.specs.declared.variables.RowRead.{RowRead}
use Rattle.ps_pattern.specs.Identifiers.{Keys}
use Rattle.ps_pattern.specs.Reading.{view, level_view, pattern_of, row_of, list_read, vector_read, dotted_read}
use Rattle.ps_pattern.proofs.Trees.{fold_by}

pub turned : {E A : Type 0} (r : Result A E) (a b : A) → a ≡ b → IfOk r (λ x. x ≡ a) → IfOk r (λ x. x ≡ b)
turned r a b e h = subst (λ z. IfOk r (λ x. x ≡ z)) e h

module _ (dots : Option ℕ) (literals : Keys) (depth : ℕ) where
  pattern_list : (f : Syntax) (fs : List Syntax) → f.node ≡ n.List fs → pattern_of dots literals f depth ≡ option_map list_read (row_of dots literals depth fs)
  unfolding pattern_of view
  pattern_list f fs e = ap (λ v. v.read depth) (fold_by (level_view dots literals) f (o.List fs) (ap out-SyntaxNode e ∙ n.outs-List fs))

  pattern_vector : (f : Syntax) (fs : List Syntax) → f.node ≡ n.Vector fs → pattern_of dots literals f depth ≡ option_map vector_read (row_of dots literals depth fs)
  unfolding pattern_of view
  pattern_vector f fs e = ap (λ v. v.read depth) (fold_by (level_view dots literals) f (o.Vector fs) (ap out-SyntaxNode e ∙ n.outs-Vector fs))

  pattern_dotted : (f : Syntax) (fs : List Syntax) (last : Syntax) → f.node ≡ n.Dotted fs last → pattern_of dots literals f depth ≡ option_and_then (dotted_read (pattern_of dots literals last depth)) (row_of dots literals depth fs)
  unfolding pattern_of view
  pattern_dotted f fs last e = ap (λ v. v.read depth) (fold_by (level_view dots literals) f (o.Dotted fs last) (ap out-SyntaxNode e ∙ n.outs-Dotted fs last))

  row_is : (fs gs : List Syntax) (row : Option RowRead) → gs ≡ fs → row ≡ row_of dots literals depth gs → row ≡ row_of dots literals depth fs
  row_is fs gs row e is = is ∙ ap (row_of dots literals depth) e

  pub list_arm : {E : Type 0} (f : Syntax) (fs gs : List Syntax) (row : Option RowRead) (r : Result (Option Read) E) → f.node ≡ n.List fs → gs ≡ fs → row ≡ row_of dots literals depth gs → IfOk r (λ x. x ≡ option_map list_read row) → IfOk r (λ x. x ≡ pattern_of dots literals f depth)
  list_arm f fs gs row r is e row_e want = turned r (option_map list_read row) (pattern_of dots literals f depth) (ap (option_map list_read) (row_is fs gs row e row_e) ∙ sym (pattern_list f fs is)) want

  pub vector_arm : {E : Type 0} (f : Syntax) (fs gs : List Syntax) (row : Option RowRead) (r : Result (Option Read) E) → f.node ≡ n.Vector fs → gs ≡ fs → row ≡ row_of dots literals depth gs → IfOk r (λ x. x ≡ option_map vector_read row) → IfOk r (λ x. x ≡ pattern_of dots literals f depth)
  vector_arm f fs gs row r is e row_e want = turned r (option_map vector_read row) (pattern_of dots literals f depth) (ap (option_map vector_read) (row_is fs gs row e row_e) ∙ sym (pattern_vector f fs is)) want

  pub dotted_arm : {E : Type 0} (f : Syntax) (fs gs : List Syntax) (last got : Syntax) (row : RowRead) (end : Option Read) (r : Result (Option Read) E) → f.node ≡ n.Dotted fs last → gs ≡ fs → got ≡ last → Some row ≡ row_of dots literals depth gs → end ≡ pattern_of dots literals got depth → IfOk r (λ x. x ≡ dotted_read end row) → IfOk r (λ x. x ≡ pattern_of dots literals f depth)
  dotted_arm f fs gs last got row end r is e l row_e end_e want =
      turned r (dotted_read end row) (pattern_of dots literals f depth)
      (ap (λ z. dotted_read z row) (end_e ∙ ap (λ z. pattern_of dots literals z depth) l) ∙ ap (option_and_then (dotted_read (pattern_of dots literals last depth))) (row_is fs gs (Some row) e row_e) ∙ sym (pattern_dotted f fs last is)) want
