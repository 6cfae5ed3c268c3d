-- Compiled rules fit.
-- For: rules_fit
use Rattle.std.proofs.Common.{◌≡◌, ℕ, ◌+◌, Bool, true, false, List, [], ◌∷◌, refl, ap, sym, ◌∙◌, subst, Option, Some, None, arith}
use Rattle.std.specs.Prelude.{if◌then◌else◌}
use Rattle.std.specs.Option.{option_and_then}
use Rattle.std.specs.List.{AllByRecursion}
use Rattle.ps_pattern.specs.declared.syntax.Syntax.{Syntax}
use Rattle.ps_pattern.specs.declared.syntax.SyntaxNode.{out-SyntaxNode}
use Rattle.ps_pattern.specs.declared.syntax.SyntaxNode.TheOpen as o
use Rattle.ps_pattern.specs.declared.template.Template.{Template}
use Rattle.ps_pattern.specs.declared.transcription.Rule.{Rule}
use Rattle.ps_pattern.specs.Matching.{before}
use Rattle.ps_pattern.specs.declared.variables.Read.{Read}
use Rattle.ps_pattern.specs.Identifiers.{Keys}
use Rattle.ps_pattern.specs.Reading.{pattern_of}
use Rattle.ps_pattern.specs.Templates.{template_of}
use Rattle.ps_pattern.specs.Compiling.{Node, whole_in, whole_of, rule_for, with_template, table_of, rule_with, rule_parts, rule_of, rules_of, list_parts, ident_at, literals_at, is_keyword, compiled_parts}
use Rattle.ps_pattern.specs.Surveys.{fits}
use Rattle.ps_pattern.specs.Fitting.{Fits, extent, CompiledRulesFit}
use Rattle.ps_pattern.proofs.Fits.{then_some, map_some, read_templates_fit}
use Rattle.ps_pattern.proofs.Rests.{some_is}
use Rattle.ps_pattern.proofs.Extents.{Agrees, depths, lifted, whole_list, whole_dotted}

lifted_none : (ds : List ℕ) → lifted 0 ds ≡ ds
lifted_none [] = refl
lifted_none (d ∷ ds) = let zero_more : d + 0 ≡ d = omega arith in ap (λ z. z ∷ lifted 0 ds) zero_more ∙ ap (λ z. d ∷ z) (lifted_none ds)

module _ (dots : Option ℕ) (literals : Keys) where
  whole_node : (x : Node) (r : Read) → whole_in dots literals x ≡ Some r → Agrees 0 r.vars (extent r.pattern)
  unfolding pattern_of
  whole_node (o.List (f ∷ fs)) r e = whole_list dots literals fs r e
  whole_node (o.Dotted (f ∷ fs) last) r e = whole_dotted dots literals fs last r e
  whole_node (o.List []) r e = absurd cc
  whole_node (o.Dotted [] last) r e = absurd cc
  whole_node (o.Vector fs) r e = absurd cc
  whole_node (o.Ident id) r e = absurd cc
  whole_node (o.Boolean x) r e = absurd cc
  whole_node (o.Integer x) r e = absurd cc
  whole_node (o.Char x) r e = absurd cc
  whole_node (o.Text x) r e = absurd cc

  with_fits : (template : Syntax) (r : Read) (rule : Rule) → Agrees 0 r.vars (extent r.pattern) → rule_with dots template r ≡ Some rule → Fits rule
  with_fits template r rule a e =
      let k : (keys : Keys) × (table_of [] r.vars ≡ Some keys) × (with_template dots template r keys ≡ Some rule) = then_some (with_template dots template r) (table_of [] r.vars) rule e in
      let b : (t : Template) × (template_of dots k.0 (depths r.vars) template 0 ≡ Some t) × (rule ≡ rule_for r.pattern t) = map_some (rule_for r.pattern) (template_of dots k.0 (depths r.vars) template 0) rule k.2 in
      let same : depths r.vars ≡ (extent r.pattern).depths = a.depths_are ∙ lifted_none (extent r.pattern).depths in
      let fit : Fits (rule_for r.pattern b.0) = record { told = a.told; fitting = ap (λ ds. fits ds b.0 0) (sym same) ∙ read_templates_fit dots k.0 (depths r.vars) template 0 b.0 b.1 } in
      subst Fits (sym b.2) fit

  parts_fit : (fs : List Syntax) (rule : Rule) → rule_parts dots literals fs ≡ Some rule → Fits rule
  parts_fit [] rule e = absurd cc
  parts_fit (x ∷ []) rule e = absurd cc
  parts_fit (pattern ∷ template ∷ []) rule e =
      let a : (r : Read) × (whole_of dots literals pattern ≡ Some r) × (rule_with dots template r ≡ Some rule) = then_some (rule_with dots template) (whole_of dots literals pattern) rule e in
      with_fits template a.0 rule (whole_node (out-SyntaxNode pattern.node) a.0 a.1) a.2
  parts_fit (x ∷ y ∷ z ∷ fs) rule e = absurd cc

  rule_fits : (f : Syntax) (rule : Rule) → rule_of dots literals f ≡ Some rule → Fits rule
  rule_fits f rule e =
      let a : (fs : List Syntax) × (list_parts (out-SyntaxNode f.node) ≡ Some fs) × (rule_parts dots literals fs ≡ Some rule) = then_some (rule_parts dots literals) (list_parts (out-SyntaxNode f.node)) rule e in
      parts_fit a.0 rule a.2

  before_some : (x : Option Rule) (xs : Option (List Rule)) (rs : List Rule) → before x xs ≡ Some rs → (r : Rule) × (ps : List Rule) × (x ≡ Some r) × (xs ≡ Some ps) × (rs ≡ r ∷ ps)
  before_some None xs rs e = absurd cc
  before_some (Some x) None rs e = absurd cc
  before_some (Some x) (Some xs) rs e = (x, xs, refl, refl, sym (some_is e))

  rules_fit : (fs : List Syntax) (rules : List Rule) → rules_of dots literals fs ≡ Some rules → AllByRecursion Fits rules
  rules_fit [] rules e = subst (λ z. AllByRecursion Fits z) (some_is e) tt
  rules_fit (f ∷ fs) rules e =
      let a : (r : Rule) × (ps : List Rule) × (rule_of dots literals f ≡ Some r) × (rules_of dots literals fs ≡ Some ps) × (rules ≡ r ∷ ps) = before_some (rule_of dots literals f) (rules_of dots literals fs) rules e in
      subst (λ z. AllByRecursion Fits z) (sym a.4) (rule_fits f a.0 a.2, rules_fit fs a.1 a.3)

all_fit : (dots keyword : Option ℕ) (head literals : Syntax) (forms : List Syntax) (is : Bool) (rules : List Rule) → (if is then option_and_then (λ ids. rules_of dots ids forms) (literals_at literals) else None) ≡ Some rules → AllByRecursion Fits rules
all_fit dots keyword head literals forms false rules e = absurd cc
all_fit dots keyword head literals forms true rules e =
    let a : (ids : Keys) × (literals_at literals ≡ Some ids) × (rules_of dots ids forms ≡ Some rules) = then_some (λ ids. rules_of dots ids forms) (literals_at literals) rules e in
    rules_fit dots a.0 forms rules a.2

form_fits : (dots keyword : Option ℕ) (fs : List Syntax) (rules : List Rule) → compiled_parts dots keyword fs ≡ Some rules → AllByRecursion Fits rules
form_fits dots keyword [] rules e = absurd cc
form_fits dots keyword (x ∷ []) rules e = absurd cc
form_fits dots keyword (head ∷ literals ∷ forms) rules e = all_fit dots keyword head literals forms (is_keyword keyword (ident_at head)) rules e

pub compiled_rules_fit : CompiledRulesFit
compiled_rules_fit dots keyword f rules e =
    let a : (fs : List Syntax) × (list_parts (out-SyntaxNode f.node) ≡ Some fs) × (compiled_parts dots keyword fs ≡ Some rules) = then_some (compiled_parts dots keyword) (list_parts (out-SyntaxNode f.node)) rules e in
    form_fits dots keyword a.0 rules a.2
