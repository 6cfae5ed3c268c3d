-- The nesting of a form is that of its parts and one more, and is tested part by part.
-- For: nests_within, nests_below, all_nest_below
use Rattle.std.proofs.Common.{◌≡◌, ℕ, suc, ◌+◌, ◌<◌, List, map, drop, ap, sym, ◌∙◌, arith, nat_le, nat_lt, length, get_or}
use Rattle.std.specs.Prelude.{◌&&◌}
use Rattle.std.proofs.lemmas.Bool.Decides.{nat_tests}
use Rattle.ps_pattern.specs.declared.syntax.Syntax.{Syntax, out-Syntax, fold-roll-Syntax}
use Rattle.ps_pattern.specs.declared.syntax.SyntaxNode.{fold-SyntaxNode, fold-roll-SyntaxNode}
use Rattle.ps_pattern.specs.declared.syntax.SyntaxNode.TheVariants as n
use Rattle.ps_pattern.specs.declared.syntax.SyntaxNode.TheOpen as o
use Rattle.ps_hygiene.specs.Transcriptions.{larger, deepest, node_nesting, nesting}
use Rattle.ps_hygiene.proofs.Items.{item_at}

nesting_node : (f : Syntax) → nesting f ≡ fold-SyntaxNode ℕ ℕ node_nesting (λ x. x.node) f.node
unfolding nesting
nesting_node f = fold-roll-Syntax ℕ ℕ node_nesting (λ x. x.node) (out-Syntax f)

pub nesting_list : (f : Syntax) (ds : List Syntax) → f.node ≡ n.List ds → nesting f ≡ suc (deepest (map nesting ds))
unfolding nesting
nesting_list f ds e = nesting_node f ∙ ap (fold-SyntaxNode ℕ ℕ node_nesting (λ x. x.node)) (e ∙ sym (n.rolls-List ds)) ∙ fold-roll-SyntaxNode ℕ ℕ node_nesting (λ x. x.node) (o.List ds)

pub nesting_vector : (f : Syntax) (ds : List Syntax) → f.node ≡ n.Vector ds → nesting f ≡ suc (deepest (map nesting ds))
unfolding nesting
nesting_vector f ds e = nesting_node f ∙ ap (fold-SyntaxNode ℕ ℕ node_nesting (λ x. x.node)) (e ∙ sym (n.rolls-Vector ds)) ∙ fold-roll-SyntaxNode ℕ ℕ node_nesting (λ x. x.node) (o.Vector ds)

pub nesting_dotted : (f : Syntax) (ds : List Syntax) (last : Syntax) → f.node ≡ n.Dotted ds last → nesting f ≡ suc (larger (deepest (map nesting ds)) (nesting last))
unfolding nesting
nesting_dotted f ds last e = nesting_node f ∙ ap (fold-SyntaxNode ℕ ℕ node_nesting (λ x. x.node)) (e ∙ sym (n.rolls-Dotted ds last)) ∙ fold-roll-SyntaxNode ℕ ℕ node_nesting (λ x. x.node) (o.Dotted ds last)

-- ---- tests

pub larger_below : (a b l : ℕ) → nat_lt (larger a b) l ≡ (nat_lt a l && nat_lt b l)
larger_below a b l = grind (arith, nat_tests)

pub below_within : (d l : ℕ) → nat_le (suc d) l ≡ nat_lt d l
below_within d l = grind (arith, nat_tests)

-- one form more
pub deepest_next : (xs : List Syntax) (i : ℕ) (x : Syntax) (l : ℕ) → i < length xs → x ≡ get_or xs i x → nat_lt (deepest (map nesting (drop i xs))) l ≡ (nat_lt (nesting x) l && nat_lt (deepest (map nesting (drop (i + 1) xs))) l)
deepest_next xs i x l lt is = ap (λ ys. nat_lt (deepest (map nesting ys)) l) (item_at xs i x lt is) ∙ larger_below (nesting x) (deepest (map nesting (drop (i + 1) xs))) l
