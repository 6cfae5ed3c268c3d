-- What forms are as types of fields, by what they hold.
-- For: worked_forms
use Rattle.std.proofs.Common.{◌≡◌, refl}
use Rattle.ps_pattern.specs.declared.syntax.Syntax.{Syntax}
use Rattle.ps_pattern.specs.declared.syntax.SyntaxNode.{SyntaxNode, map-SyntaxNode, fold-SyntaxNode, out-SyntaxNode}
use Rattle.ps_pattern.proofs.Trees.{fold_is}
use Rattle.ps_derived.specs.declared.types.TypeWords.{TypeWords}
use Rattle.ps_derived.specs.FieldTypes.{TypeView, view_in, type_view, type_of}

pub view_is : (w : TypeWords) (f : Syntax) → type_view w f ≡ view_in w (map-SyntaxNode SyntaxNode Syntax TypeView TypeView (fold-SyntaxNode TypeView TypeView (view_in w) (λ x. x.node)) (type_view w) (out-SyntaxNode f.node))
unfolding type_view
view_is w f = fold_is (view_in w) f

pub type_is : (w : TypeWords) (f : Syntax) → type_of w f ≡ (type_view w f).type
unfolding type_of
type_is w f = refl
