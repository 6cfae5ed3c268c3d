-- What is read of a template's list, vector and dotted list.
-- For: read_template
use Rattle.std.proofs.Common.{◌≡◌, ℕ, List, map, ap, sym, ◌∙◌, Option, Some, IfOk, false}
use Rattle.std.specs.Prelude.{Result}
use Rattle.std.specs.Option.{option_map, option_and_then}
use Rattle.ps_pattern.specs.declared.syntax.Syntax.{Syntax}
use Rattle.ps_pattern.specs.declared.syntax.SyntaxNode.{out-SyntaxNode}
use Rattle.ps_pattern.specs.declared.syntax.SyntaxNode.TheVariants as n
use Rattle.ps_pattern.specs.declared.syntax.SyntaxNode.TheOpen as o
use Rattle.ps_pattern.specs.declared.template.Part.{Part}
use Rattle.ps_pattern.specs.declared.template.Template.{Template}
use Rattle.ps_pattern.specs.declared.template.Template.TheVariants as t
use Rattle.ps_pattern.specs.Identifiers.{Keys}
use Rattle.ps_pattern.specs.Templates.{view, level_view, template_of, parts_read, dotted_of}
use Rattle.ps_pattern.proofs.Trees.{fold_by}
use Rattle.ps_pattern.proofs.PatternArms.{turned}

module _ (dots : Option ℕ) (keys : Keys) (depths : List ℕ) where
  abbrev parts : ℕ → List Syntax → Option (List Part)
  parts around fs = parts_read depths around false (map (view dots keys depths) fs)

  module _ (around : ℕ) where
    template_list : (f : Syntax) (fs : List Syntax) → f.node ≡ n.List fs → template_of dots keys depths f around ≡ option_map t.List (parts around fs)
    unfolding template_of view
    template_list f fs e = ap (λ v. v.read around) (fold_by (level_view dots keys depths) f (o.List fs) (ap out-SyntaxNode e ∙ n.outs-List fs))

    template_vector : (f : Syntax) (fs : List Syntax) → f.node ≡ n.Vector fs → template_of dots keys depths f around ≡ option_map t.Vector (parts around fs)
    unfolding template_of view
    template_vector f fs e = ap (λ v. v.read around) (fold_by (level_view dots keys depths) f (o.Vector fs) (ap out-SyntaxNode e ∙ n.outs-Vector fs))

    template_dotted : (f : Syntax) (fs : List Syntax) (last : Syntax) → f.node ≡ n.Dotted fs last → template_of dots keys depths f around ≡ option_and_then (dotted_of (template_of dots keys depths last around)) (parts around fs)
    unfolding template_of view
    template_dotted f fs last e = ap (λ v. v.read around) (fold_by (level_view dots keys depths) f (o.Dotted fs last) (ap out-SyntaxNode e ∙ n.outs-Dotted fs last))

    pub list_arm : (f : Syntax) (fs gs : List Syntax) (read : Option (List Part)) (r : Option Template) → f.node ≡ n.List fs → gs ≡ fs → read ≡ parts around gs → r ≡ option_map t.List read → r ≡ template_of dots keys depths f around
    list_arm f fs gs read r is e read_e want = want ∙ ap (option_map t.List) (read_e ∙ ap (parts around) e) ∙ sym (template_list f fs is)

    pub vector_arm : (f : Syntax) (fs gs : List Syntax) (read : Option (List Part)) (r : Option Template) → f.node ≡ n.Vector fs → gs ≡ fs → read ≡ parts around gs → r ≡ option_map t.Vector read → r ≡ template_of dots keys depths f around
    vector_arm f fs gs read r is e read_e want = want ∙ ap (option_map t.Vector) (read_e ∙ ap (parts around) e) ∙ sym (template_vector f fs is)

    pub dotted_arm : {E : Type 0} (f : Syntax) (fs gs : List Syntax) (last got : Syntax) (read : List Part) (end : Option Template) (r : Result (Option Template) E) → f.node ≡ n.Dotted fs last → gs ≡ fs → got ≡ last → Some read ≡ parts around gs → end ≡ template_of dots keys depths got around → IfOk r (λ x. x ≡ dotted_of end read) → IfOk r (λ x. x ≡ template_of dots keys depths f around)
    dotted_arm f fs gs last got read end r is e l read_e end_e want =
        turned r (dotted_of end read) (template_of dots keys depths f around)
        (ap (λ z. dotted_of z read) (end_e ∙ ap (λ z. template_of dots keys depths z around) l) ∙ ap (option_and_then (dotted_of (template_of dots keys depths last around))) (read_e ∙ ap (parts around) e) ∙ sym (template_dotted f fs last is)) want
