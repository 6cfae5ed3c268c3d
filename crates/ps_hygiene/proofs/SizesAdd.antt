-- The size of a form is that of its parts and one more, and sizes are taken from a room one after another.
-- For: weigh, weigh_all
use Rattle.std.proofs.Common.{◌≡◌, ℕ, ℤ, Bool, ◌⊎◌, inl, inr, zero, suc, ◌+◌, List, [], ◌∷◌, map, take, drop, refl, ap, sym, ◌∙◌, Option, Some, None, arith, rules}
use Rattle.std.proofs.lemmas.Bool.Decides.{leb_tells}
use Rattle.std.specs.Prelude.{slice_get}
use Rattle.std.specs.Option.{unwrap_or}
use Rattle.ps_pattern.specs.declared.syntax.Ident.{Ident}
use Rattle.ps_pattern.specs.declared.syntax.Syntax.{Syntax, out-Syntax, fold-roll-Syntax}
use Rattle.ps_pattern.specs.declared.syntax.SyntaxNode.{SyntaxNode, roll-SyntaxNode, fold-SyntaxNode, fold-roll-SyntaxNode}
use Rattle.ps_pattern.specs.declared.syntax.SyntaxNode.TheVariants as n
use Rattle.ps_pattern.specs.declared.syntax.SyntaxNode.TheOpen as o
use Rattle.ps_pattern.specs.Filling.{taken, size, sizes, total, node_size}

pub taken_none : (n : ℕ) → taken None n ≡ None
taken_none n = refl

pub taken_twice : (left : Option ℕ) (m n : ℕ) → taken (taken left m) n ≡ taken left (m + n)
taken_twice None m n = refl
taken_twice (Some left) m n = grind (arith, leb_tells)

pub total_split : {A : Type 0} (g : A → ℕ) (i : ℕ) (xs : List A) → total (map g xs) ≡ total (map g (take i xs)) + total (map g (drop i xs))
total_split g zero xs = omega arith
total_split g (suc i) [] = refl
total_split g (suc i) (x ∷ xs) = ap (λ n. g x + n) (total_split g i xs) ∙ omega arith

some_is : {A : Type 0} {a b : A} → Some a ≡ Some b → a ≡ b
some_is {A} {a} {b} e = ap (λ o. unwrap_or o a) e

total_suc : {A : Type 0} (g : A → ℕ) (ys : List A) (k : ℕ) (x : A) → slice_get ys k ≡ Some x → total (map g (take (suc k) ys)) ≡ total (map g (take k ys)) + g x
total_suc g [] k x h = search rules
total_suc g (y ∷ ys) zero x h = ap (λ z. g z + 0) (some_is h) ∙ omega arith
total_suc g (y ∷ ys) (suc k) x h = ap (λ n. g y + n) (total_suc g ys k x h) ∙ omega arith

total_next : {A : Type 0} (g : A → ℕ) (xs : List A) (i : ℕ) (x : A) → slice_get xs i ≡ Some x → total (map g (take (i + 1) xs)) ≡ total (map g (take i xs)) + g x
total_next g xs i x e = let one : i + 1 ≡ suc i = omega arith in ap (λ n. total (map g (take n xs))) one ∙ total_suc g xs i x e

pub none_stays : (left : Option ℕ) (i : ℕ) (xs : List Syntax) → None ≡ taken left (sizes (take i xs)) → None ≡ taken left (sizes xs)
none_stays left i xs e = ap (λ z. taken z (sizes (drop i xs))) e ∙ taken_twice left (sizes (take i xs)) (sizes (drop i xs)) ∙ ap (taken left) (sym (total_split size i xs))

pub size_node : (f : Syntax) → size f ≡ fold-SyntaxNode ℕ ℕ node_size (λ x. x.node) f.node
unfolding size
size_node f = fold-roll-Syntax ℕ ℕ node_size (λ x. x.node) (out-Syntax f)

pub size_list : (f : Syntax) (ds : List Syntax) → f.node ≡ n.List ds → size f ≡ 1 + sizes ds
unfolding size
size_list f ds e = size_node f ∙ ap (fold-SyntaxNode ℕ ℕ node_size (λ x. x.node)) (e ∙ sym (n.rolls-List ds)) ∙ fold-roll-SyntaxNode ℕ ℕ node_size (λ x. x.node) (o.List ds)

pub size_vector : (f : Syntax) (ds : List Syntax) → f.node ≡ n.Vector ds → size f ≡ 1 + sizes ds
unfolding size
size_vector f ds e = size_node f ∙ ap (fold-SyntaxNode ℕ ℕ node_size (λ x. x.node)) (e ∙ sym (n.rolls-Vector ds)) ∙ fold-roll-SyntaxNode ℕ ℕ node_size (λ x. x.node) (o.Vector ds)

pub size_dotted : (f : Syntax) (ds : List Syntax) (last : Syntax) → f.node ≡ n.Dotted ds last → size f ≡ 1 + sizes ds + size last
unfolding size
size_dotted f ds last e = size_node f ∙ ap (fold-SyntaxNode ℕ ℕ node_size (λ x. x.node)) (e ∙ sym (n.rolls-Dotted ds last)) ∙ fold-roll-SyntaxNode ℕ ℕ node_size (λ x. x.node) (o.Dotted ds last)

abbrev IsLeaf : Syntax → Type 0
IsLeaf f = ((x : Bool) × (f.node ≡ n.Boolean x)) ⊎ (((x : ℤ) × (f.node ≡ n.Integer x)) ⊎ (((x : ℕ) × (f.node ≡ n.Char x)) ⊎ (((x : List ℕ) × (f.node ≡ n.Text x)) ⊎ ((x : Ident) × (f.node ≡ n.Ident x)))))

size_open : (f : Syntax) (x : o.SyntaxNode-F SyntaxNode Syntax) → f.node ≡ roll-SyntaxNode x → size f ≡ fold-SyntaxNode ℕ ℕ node_size (λ x. x.node) (roll-SyntaxNode x)
size_open f x e = size_node f ∙ ap (fold-SyntaxNode ℕ ℕ node_size (λ x. x.node)) e

pub size_leaf : (f : Syntax) → IsLeaf f → size f ≡ 1
size_leaf f (inl h) = size_open f (o.Boolean h.0) (h.1 ∙ sym (n.rolls-Boolean h.0)) ∙ fold-roll-SyntaxNode ℕ ℕ node_size (λ x. x.node) (o.Boolean h.0)
size_leaf f (inr (inl h)) = size_open f (o.Integer h.0) (h.1 ∙ sym (n.rolls-Integer h.0)) ∙ fold-roll-SyntaxNode ℕ ℕ node_size (λ x. x.node) (o.Integer h.0)
size_leaf f (inr (inr (inl h))) = size_open f (o.Char h.0) (h.1 ∙ sym (n.rolls-Char h.0)) ∙ fold-roll-SyntaxNode ℕ ℕ node_size (λ x. x.node) (o.Char h.0)
size_leaf f (inr (inr (inr (inl h)))) = size_open f (o.Text h.0) (h.1 ∙ sym (n.rolls-Text h.0)) ∙ fold-roll-SyntaxNode ℕ ℕ node_size (λ x. x.node) (o.Text h.0)
size_leaf f (inr (inr (inr (inr h)))) = size_open f (o.Ident h.0) (h.1 ∙ sym (n.rolls-Ident h.0)) ∙ fold-roll-SyntaxNode ℕ ℕ node_size (λ x. x.node) (o.Ident h.0)

-- the answer of a weighing in two turns
pub weighed : (left one two : Option ℕ) (ds es : List Syntax) (all : ℕ) → one ≡ taken left 1 → two ≡ taken one (sizes es) → es ≡ ds → all ≡ 1 + sizes ds → two ≡ taken left all
weighed left one two ds es all a b e h = b ∙ ap (λ z. taken z (sizes es)) a ∙ taken_twice left 1 (sizes es) ∙ ap (λ xs. taken left (1 + sizes xs)) e ∙ ap (taken left) (sym h)

pub weighed_next : (left here : Option ℕ) (i : ℕ) (xs : List Syntax) (x : Syntax) → slice_get xs i ≡ Some x → here ≡ taken left (sizes (take i xs)) → taken here (size x) ≡ taken left (sizes (take (i + 1) xs))
weighed_next left here i xs x e h = ap (λ z. taken z (size x)) h ∙ taken_twice left (sizes (take i xs)) (size x) ∙ ap (taken left) (sym (total_next size xs i x e))
