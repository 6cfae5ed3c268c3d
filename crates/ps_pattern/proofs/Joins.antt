-- How large forms before the last one of a dotted template are.
-- For: fill, join_some, before_dot
use Rattle.std.proofs.Common.{◌≡◌, ◌≢◌, ℕ, ◌+◌, ◌-◌, ◌<◌, ◌≤◌, List, [], ◌∷◌, ◌++◌, refl, subst, ap, sym, ◌∙◌, Option, Some, None, arith}
use Rattle.std.specs.Prelude.{Result, Err}
use Rattle.ps_base.specs.declared.faults.Place.{Place}
use Rattle.ps_pattern.specs.declared.syntax.Syntax.{Syntax, fold-Syntax}
use Rattle.ps_pattern.specs.declared.syntax.SyntaxNode.{SyntaxNode, map-SyntaxNode, fold-SyntaxNode, fold_out-SyntaxNode, out-SyntaxNode}
use Rattle.ps_pattern.specs.declared.syntax.SyntaxNode.TheVariants as n
use Rattle.ps_pattern.specs.declared.syntax.SyntaxNode.TheOpen as o
use Rattle.ps_pattern.specs.declared.room.Built.{Built}
use Rattle.ps_pattern.specs.declared.room.FillFault.{FillFault}
use Rattle.ps_pattern.specs.declared.room.FillFault.TheVariants.{Uneven, TooLarge, NoMemory}
use Rattle.ps_pattern.specs.Matching.{Node, list_of}
use Rattle.ps_pattern.specs.Filling.{size, sizes, node_size, Fills, dotted_at, joined_node, joined, joined_option}
use Rattle.ps_pattern.proofs.Weights.{size_node, size_list, size_dotted}
use Rattle.ps_pattern.proofs.Orders.{sizes_append, some_is}

size_by : (f : Syntax) (y : Node) → out-SyntaxNode f.node ≡ y → size f ≡ node_size (map-SyntaxNode SyntaxNode Syntax ℕ ℕ (fold-SyntaxNode ℕ ℕ node_size (λ x. x.node)) (fold-Syntax ℕ ℕ node_size (λ x. x.node)) y)
size_by f y is = size_node f ∙ fold_out-SyntaxNode ℕ ℕ node_size (λ x. x.node) f.node ∙ ap (λ z. node_size (map-SyntaxNode SyntaxNode Syntax ℕ ℕ (fold-SyntaxNode ℕ ℕ node_size (λ x. x.node)) (fold-Syntax ℕ ℕ node_size (λ x. x.node)) z)) is

pub dotted_size : (at : Place) (fs : List Syntax) (last : Syntax) → size (dotted_at at fs last) ≡ 1 + sizes fs + size last
dotted_size at fs last = size_dotted (dotted_at at fs last) fs last refl

list_joined : (at : Place) (fs gs : List Syntax) (last : Syntax) → out-SyntaxNode last.node ≡ o.List gs → size (list_of at (fs ++ gs)) ≡ sizes fs + size last
unfolding size
list_joined at fs gs last is =
    let a : size (list_of at (fs ++ gs)) ≡ 1 + sizes (fs ++ gs) = size_list (list_of at (fs ++ gs)) (fs ++ gs) refl in
    let b : sizes (fs ++ gs) ≡ sizes fs + sizes gs = sizes_append fs gs in
    let d : size last ≡ 1 + sizes gs = size_by last (o.List gs) is in
    omega arith

dotted_joined : (at : Place) (fs gs : List Syntax) (end last : Syntax) → out-SyntaxNode last.node ≡ o.Dotted gs end → size (dotted_at at (fs ++ gs) end) ≡ sizes fs + size last
unfolding size
dotted_joined at fs gs end last is =
    let a : size (dotted_at at (fs ++ gs) end) ≡ 1 + sizes (fs ++ gs) + size end = dotted_size at (fs ++ gs) end in
    let b : sizes (fs ++ gs) ≡ sizes fs + sizes gs = sizes_append fs gs in
    let d : size last ≡ 1 + sizes gs + size end = size_by last (o.Dotted gs end) is in
    omega arith

pub list_fits : (at : Place) (fs gs all : List Syntax) (last : Syntax) (left : ℕ) → last.node ≡ n.List gs → all ≡ fs ++ gs → left + size (list_of at all) ≡ left + size last + sizes fs
list_fits at fs gs all last left is e =
    let a : size (list_of at all) ≡ sizes fs + size last = ap (λ z. size (list_of at z)) e ∙ list_joined at fs gs last (ap out-SyntaxNode is ∙ n.outs-List gs) in
    omega arith

pub dotted_fits : (at : Place) (fs gs all : List Syntax) (end last : Syntax) (left : ℕ) → last.node ≡ n.Dotted gs end → all ≡ fs ++ gs → left + size (dotted_at at all end) ≡ left + size last + sizes fs
dotted_fits at fs gs all end last left is e =
    let a : size (dotted_at at all end) ≡ sizes fs + size last = ap (λ z. size (dotted_at at z end)) e ∙ dotted_joined at fs gs end last (ap out-SyntaxNode is ∙ n.outs-Dotted gs end) in
    omega arith

larger : (at : Place) (fs : List Syntax) (last : Syntax) → sizes fs + size last ≤ size (dotted_at at fs last)
larger at fs last = let a : size (dotted_at at fs last) ≡ 1 + sizes fs + size last = dotted_size at fs last in omega arith

-- nothing is lost where forms are joined
node_holds : (at : Place) (fs : List Syntax) (last : Syntax) (y : Node) → out-SyntaxNode last.node ≡ y → sizes fs + size last ≤ size (joined_node at fs last y)
node_holds at fs last (o.List gs) is = let a : size (list_of at (fs ++ gs)) ≡ sizes fs + size last = list_joined at fs gs last is in omega arith
node_holds at fs last (o.Dotted gs end) is = let a : size (dotted_at at (fs ++ gs) end) ≡ sizes fs + size last = dotted_joined at fs gs end last is in omega arith
node_holds at fs last (o.Vector gs) is = larger at fs last
node_holds at fs last (o.Boolean x) is = larger at fs last
node_holds at fs last (o.Integer x) is = larger at fs last
node_holds at fs last (o.Char x) is = larger at fs last
node_holds at fs last (o.Text x) is = larger at fs last
node_holds at fs last (o.Ident x) is = larger at fs last

holds : (at : Place) (fs : List Syntax) (last : Syntax) → sizes fs + size last ≤ size (joined at fs last)
holds at [] last = omega arith
holds at (f ∷ fs) last = node_holds at (f ∷ fs) last (out-SyntaxNode last.node) refl

-- a fault of the parts is one of the whole
front_large : (at : Place) (a : Option (List Syntax)) (b : Option Syntax) (left : ℕ) → ((x : List Syntax) → a ≡ Some x → left < sizes x) → (y : Syntax) → joined_option at a b ≡ Some y → left < size y
front_large at None b left h y e = absurd cc
front_large at (Some fs) None left h y e = absurd cc
front_large at (Some fs) (Some last) left h y e = let lt : left < sizes fs = h fs refl in let le : sizes fs + size last ≤ size (joined at fs last) = holds at fs last in let is : size (joined at fs last) ≡ size y = ap size (some_is e) in omega arith

pub front_fault : (at : Place) (a : Option (List Syntax)) (b want : Option Syntax) (left : ℕ) (x : FillFault) → want ≡ joined_option at a b → Fills sizes a left (Err x) → Fills size want left (Err x)
front_fault at a b want left Uneven e h = e ∙ ap (λ z. joined_option at z b) h
front_fault at a b want left TooLarge e h = λ y is. front_large at a b left h y (sym e ∙ is)
front_fault at a b want left NoMemory e h = h

last_large : (at : Place) (fs : List Syntax) (b : Option Syntax) (here left : ℕ) → here + sizes fs ≡ left → ((x : Syntax) → b ≡ Some x → here < size x) → (y : Syntax) → joined_option at (Some fs) b ≡ Some y → left < size y
last_large at fs None here left d h y e = absurd cc
last_large at fs (Some last) here left d h y e = let lt : here < size last = h last refl in let le : sizes fs + size last ≤ size (joined at fs last) = holds at fs last in let is : size (joined at fs last) ≡ size y = ap size (some_is e) in omega arith

pub last_fault : (at : Place) (fs : List Syntax) (a : Option (List Syntax)) (b want : Option Syntax) (here left : ℕ) (x : FillFault) → want ≡ joined_option at a b → ((a ≡ Some fs) × (here + sizes fs ≡ left)) → Fills size b here (Err x) → Fills size want left (Err x)
last_fault at fs a b want here left Uneven e d h = e ∙ ap (λ z. joined_option at z b) d.0 ∙ ap (joined_option at (Some fs)) h
last_fault at fs a b want here left TooLarge e d h = λ y is. last_large at fs b here left d.1 h y (ap (λ z. joined_option at z b) (sym d.0) ∙ sym e ∙ is)
last_fault at fs a b want here left NoMemory e d h = h

pub joined_made : (at : Place) (fs : List Syntax) (last : Syntax) (a : Option (List Syntax)) (b want : Option Syntax) (end here left : ℕ) (r : Result (Built Syntax) FillFault) → want ≡ joined_option at a b → ((a ≡ Some fs) × (here + sizes fs ≡ left)) → ((b ≡ Some last) × (end + size last ≡ here)) → Fills size (Some (joined at fs last)) (end + size last + sizes fs) r → Fills size want left r
joined_made at fs last a b want end here left r e d g h =
    let room : end + size last + sizes fs ≡ left = ap (λ n. n + sizes fs) g.1 ∙ d.1 in
    subst (λ z. Fills size z left r) (sym (e ∙ ap (λ z. joined_option at z b) d.0 ∙ ap (joined_option at (Some fs)) g.0)) (subst (λ n. Fills size (Some (joined at fs last)) n r) room h)

pub before_large : (at : Place) (fs : List Syntax) (last : Syntax) (left : ℕ) → left ≡ 0 → left + size last + sizes fs < size (dotted_at at fs last)
before_large at fs last left none = let a : size (dotted_at at fs last) ≡ 1 + sizes fs + size last = dotted_size at fs last in omega arith

pub before_made : (at : Place) (fs gs : List Syntax) (last got : Syntax) (left : ℕ) → gs ≡ fs → got ≡ last → left ≢ 0 → (Some (dotted_at at fs last) ≡ Some (dotted_at at gs got)) × (left - 1 + size (dotted_at at gs got) ≡ left + size last + sizes fs)
before_made at fs gs last got left same e some =
    let a : size (dotted_at at gs got) ≡ 1 + sizes fs + size last = ap (λ z. size (dotted_at at gs z)) e ∙ ap (λ z. size (dotted_at at z last)) same ∙ dotted_size at fs last in
    (ap (λ z. Some (dotted_at at fs z)) (sym e) ∙ ap (λ z. Some (dotted_at at z got)) (sym same), omega arith)

pub list_made : (at : Place) (fs gs all : List Syntax) (last : Syntax) (left : ℕ) → last.node ≡ n.List gs → all ≡ fs ++ gs → (Some (joined_node at fs last (out-SyntaxNode last.node)) ≡ Some (list_of at all)) × (left + size (list_of at all) ≡ left + size last + sizes fs)
list_made at fs gs all last left is e = (ap (λ y. Some (joined_node at fs last y)) (ap out-SyntaxNode is ∙ n.outs-List gs) ∙ ap (λ z. Some (list_of at z)) (sym e), list_fits at fs gs all last left is e)

pub dotted_made : (at : Place) (fs gs all : List Syntax) (end got last : Syntax) (left : ℕ) → last.node ≡ n.Dotted gs end → all ≡ fs ++ gs → got ≡ end → (Some (joined_node at fs last (out-SyntaxNode last.node)) ≡ Some (dotted_at at all got)) × (left + size (dotted_at at all got) ≡ left + size last + sizes fs)
dotted_made at fs gs all end got last left is e same =
    let a : left + size (dotted_at at all end) ≡ left + size last + sizes fs = dotted_fits at fs gs all end last left is e in
    (ap (λ y. Some (joined_node at fs last y)) (ap out-SyntaxNode is ∙ n.outs-Dotted gs end) ∙ ap (λ z. Some (dotted_at at z end)) (sym e) ∙ ap (λ z. Some (dotted_at at all z)) (sym same), ap (λ z. left + size (dotted_at at all z)) same ∙ a)
