-- What forms are as quoted data, by what they hold.
-- For: is_constant_node, worked_forms
use Rattle.std.proofs.Common.{◌≡◌, List, map, ap, ◌∙◌}
use Rattle.ps_pattern.specs.declared.syntax.Syntax.{Syntax, fold-Syntax}
use Rattle.ps_pattern.specs.declared.syntax.SyntaxNode.{SyntaxNode, map-SyntaxNode, fold-SyntaxNode, fold_out-SyntaxNode, out-SyntaxNode}
use Rattle.ps_pattern.specs.declared.syntax.SyntaxNode.TheOpen.{SyntaxNode-F}
use Rattle.ps_pattern.specs.declared.syntax.SyntaxNode.TheVariants as k
use Rattle.std.specs.Prelude.{Bool}
use Rattle.ps_pattern.proofs.Trees.{fold_is}
use Rattle.ps_derived.specs.Quotation.{constant_in, is_constant, node_constant, some_constant}

fold_by : (x : SyntaxNode) (y : SyntaxNode-F SyntaxNode Syntax) → out-SyntaxNode x ≡ y → fold-SyntaxNode Bool Bool constant_in (λ z. z.node) x ≡ constant_in (map-SyntaxNode SyntaxNode Syntax Bool Bool (fold-SyntaxNode Bool Bool constant_in (λ z. z.node)) (fold-Syntax Bool Bool constant_in (λ z. z.node)) y)
fold_by x y is = fold_out-SyntaxNode Bool Bool constant_in (λ z. z.node) x ∙ ap (λ z. constant_in (map-SyntaxNode SyntaxNode Syntax Bool Bool (fold-SyntaxNode Bool Bool constant_in (λ u. u.node)) (fold-Syntax Bool Bool constant_in (λ u. u.node)) z)) is

pub vector_constant : (fs : List Syntax) → node_constant (k.Vector fs) ≡ some_constant (map is_constant fs)
unfolding node_constant is_constant
vector_constant fs = fold_by (k.Vector fs) (SyntaxNode-F.Vector fs) (k.outs-Vector fs)

pub constant_is : (f : Syntax) → is_constant f ≡ constant_in (map-SyntaxNode SyntaxNode Syntax Bool Bool node_constant is_constant (out-SyntaxNode f.node))
unfolding node_constant is_constant
constant_is f = fold_is constant_in f
