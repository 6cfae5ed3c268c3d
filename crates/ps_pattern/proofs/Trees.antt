-- Induction over forms, and what a fold gives of a form.
-- For: templates_fit, rules_fit, and the rows of what is read
use Rattle.std.proofs.Common.{◌≡◌, ℕ, ℤ, Bool, List, [], ◌∷◌, map, sym, ap, ◌∙◌, subst}
use Rattle.std.specs.List.{AllByRecursion}
use Rattle.ps_base.specs.declared.faults.Place.{Place}
use Rattle.ps_pattern.specs.declared.syntax.Ident.{Ident}
use Rattle.ps_pattern.specs.declared.syntax.Syntax.{Syntax, map-Syntax, fold-Syntax, fold-roll-Syntax, ind-Syntax, roll-Syntax, out-Syntax}
use Rattle.ps_pattern.specs.declared.syntax.SyntaxNode.{SyntaxNode, map-SyntaxNode, fold-SyntaxNode, fold_out-SyntaxNode, roll-SyntaxNode, out-SyntaxNode}
use Rattle.ps_pattern.specs.declared.syntax.SyntaxNode.TheOpen.{SyntaxNode-F, Syntax-F}
use Rattle.ps_pattern.specs.declared.syntax.SyntaxNode.TheVariants as k

all-of : (P : Syntax → Type 0) (xs : List ((d : Syntax) × P d)) → AllByRecursion P (map (λ e. e.0) xs)
all-of P [] = tt
all-of P (x ∷ xs) = (x.1, all-of P xs)

-- a fact on all forms, from facts on all kinds
pub induction : (Q : SyntaxNode → Type 0) (P : Syntax → Type 0) → ((b : Bool) → Q (k.Boolean b)) → ((i : ℤ) → Q (k.Integer i)) → ((c : ℕ) → Q (k.Char c)) → ((bytes : List ℕ) → Q (k.Text bytes)) → ((n : Ident) → Q (k.Ident n))
    → ((ds : List Syntax) → AllByRecursion P ds → Q (k.List ds)) → ((ds : List Syntax) (d : Syntax) → AllByRecursion P ds → P d → Q (k.Dotted ds d)) → ((ds : List Syntax) → AllByRecursion P ds → Q (k.Vector ds))
    → ((p : Place) (x : SyntaxNode) → Q x → P (roll-Syntax (record { place = p; node = x }))) → (d : Syntax) → P d
induction Q P onBoolean onInteger onChar onText onIdent onList onDotted onVector onSyntax = ind-Syntax Q P node_step syntax_step
  where
    node_step : (x : SyntaxNode-F SyntaxNode Syntax) (y : SyntaxNode-F ((e : SyntaxNode) × Q e) ((d : Syntax) × P d)) → map-SyntaxNode ((e : SyntaxNode) × Q e) ((d : Syntax) × P d) SyntaxNode Syntax (λ e. e.0) (λ e. e.0) y ≡ x → Q (roll-SyntaxNode x)
    node_step x (SyntaxNode-F.Boolean b) is = subst (λ z. Q (roll-SyntaxNode z)) is (subst Q (sym (k.rolls-Boolean b)) (onBoolean b))
    node_step x (SyntaxNode-F.Integer i) is = subst (λ z. Q (roll-SyntaxNode z)) is (subst Q (sym (k.rolls-Integer i)) (onInteger i))
    node_step x (SyntaxNode-F.Char c) is = subst (λ z. Q (roll-SyntaxNode z)) is (subst Q (sym (k.rolls-Char c)) (onChar c))
    node_step x (SyntaxNode-F.Text bytes) is = subst (λ z. Q (roll-SyntaxNode z)) is (subst Q (sym (k.rolls-Text bytes)) (onText bytes))
    node_step x (SyntaxNode-F.Ident n) is = subst (λ z. Q (roll-SyntaxNode z)) is (subst Q (sym (k.rolls-Ident n)) (onIdent n))
    node_step x (SyntaxNode-F.List es) is = subst (λ z. Q (roll-SyntaxNode z)) is (subst Q (sym (k.rolls-List (map (λ e. e.0) es))) (onList (map (λ e. e.0) es) (all-of P es)))
    node_step x (SyntaxNode-F.Dotted es e) is = subst (λ z. Q (roll-SyntaxNode z)) is (subst Q (sym (k.rolls-Dotted (map (λ e. e.0) es) e.0)) (onDotted (map (λ e. e.0) es) e.0 (all-of P es) e.1))
    node_step x (SyntaxNode-F.Vector es) is = subst (λ z. Q (roll-SyntaxNode z)) is (subst Q (sym (k.rolls-Vector (map (λ e. e.0) es))) (onVector (map (λ e. e.0) es) (all-of P es)))

    syntax_step : (x : Syntax-F SyntaxNode Syntax) (y : Syntax-F ((e : SyntaxNode) × Q e) ((d : Syntax) × P d)) → map-Syntax ((e : SyntaxNode) × Q e) ((d : Syntax) × P d) SyntaxNode Syntax (λ e. e.0) (λ e. e.0) y ≡ x → P (roll-Syntax x)
    syntax_step x y is = subst (λ z. P (roll-Syntax z)) is (onSyntax y.place y.node.0 y.node.1)

module _ {A : Type 0} (s : SyntaxNode-F A A → A) where
  abbrev pub folded : Syntax → A
  folded f = fold-Syntax A A s (λ x. x.node) f

  abbrev pub opened : SyntaxNode-F SyntaxNode Syntax → SyntaxNode-F A A
  opened y = map-SyntaxNode SyntaxNode Syntax A A (fold-SyntaxNode A A s (λ x. x.node)) folded y

  -- the fold of a form is the step on its open layer
  pub fold_is : (f : Syntax) → folded f ≡ s (opened (out-SyntaxNode f.node))
  fold_is f = fold-roll-Syntax A A s (λ x. x.node) (out-Syntax f) ∙ fold_out-SyntaxNode A A s (λ x. x.node) f.node

  pub fold_by : (f : Syntax) (y : SyntaxNode-F SyntaxNode Syntax) → out-SyntaxNode f.node ≡ y → folded f ≡ s (opened y)
  fold_by f y is = fold_is f ∙ ap (λ z. s (opened z)) is
