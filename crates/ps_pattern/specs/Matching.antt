-- How a form matches a pattern. Read `matched k p f` as: what the variables of p, from left to right, stand for where p matches f.
use Rattle.std.specs.Prelude.{ℕ, ℤ, length, drop, not, Bool, true, false, ◌==◌, if◌then◌else◌, List, [], ◌∷◌, ◌++◌, map, Option, Some, None}
use Rattle.std.specs.Option.{option_map, option_and_then}
use Rattle.std.specs.List.{range_with_len}
use Rattle.std.specs.Str.{bytes_eq}
use Rattle.std.specs.Ordering.{int_eq}
use Rattle.ps_pattern.specs.declared.binding.Binding.{Binding}
use Rattle.ps_pattern.specs.declared.syntax.Ident.{Ident}
use Rattle.ps_base.specs.declared.faults.Place.{Place}
use Rattle.ps_pattern.specs.declared.syntax.Syntax.{Syntax}
use Rattle.ps_pattern.specs.declared.syntax.SyntaxNode.{SyntaxNode, out-SyntaxNode}
use Rattle.ps_pattern.specs.declared.syntax.SyntaxNode.TheVariants as n
use Rattle.ps_pattern.specs.declared.syntax.SyntaxNode.TheOpen as o
use Rattle.ps_pattern.specs.declared.bound.Bound.{Bound}
use Rattle.ps_pattern.specs.declared.bound.Bound.TheVariants as b
use Rattle.ps_pattern.specs.declared.rules.Pattern.{Pattern, fold-Pattern}
use Rattle.ps_pattern.specs.declared.rules.Pattern.TheOpen as p
use Rattle.ps_pattern.specs.Meaning.{nth_bound, same_binding}

abbrev pub Binds : Type 0
Binds = List Bound

-- whether an identifier of the use stands for a literal of the rules
abbrev pub Literals : Type 0
Literals = Ident → Ident → Bool

abbrev pub Matcher : Type 0
Matcher = Syntax → Option Binds

abbrev pub when : Bool → Option Binds
when true = Some []
when false = None

-- the one's and then the other's
abbrev pub both : Option Binds → Option Binds → Option Binds
both (Some x) (Some y) = Some (x ++ y)
both (Some x) None = None
both None y = None

-- the first forms, one by each
abbrev pub all : List Matcher → List Syntax → Option Binds
all [] fs = Some []
all (m ∷ ms) [] = None
all (m ∷ ms) (f ∷ fs) = both (m f) (all ms fs)

abbrev pub before : {A : Type 0} → Option A → Option (List A) → Option (List A)
before (Some x) (Some xs) = Some (x ∷ xs)
before (Some x) None = None
before None xs = None

-- all of them, or nothing where one is missing
abbrev pub collect : {A : Type 0} → List (Option A) → Option (List A)
collect [] = Some []
collect (x ∷ xs) = before x (collect xs)

abbrev pub column : List Binds → ℕ → Bound
column rows v = b.Many (map (nth_bound v) rows)

-- of w variables, what each is bound to in all rows
abbrev pub columns : ℕ → List Binds → Binds
columns w rows = map (column rows) (range_with_len 0 w)

abbrev pub each : Matcher → ℕ → List Syntax → Option Binds
each m w fs = option_map (columns w) (collect (map m fs))

abbrev pub list_of : Place → List Syntax → Syntax
list_of at fs = record { place = at; node = n.List fs }

-- the forms, and behind them the last form of a dotted list
abbrev pub dotted_of : Place → List Syntax → Syntax → Syntax
dotted_of at [] last = last
dotted_of at (f ∷ fs) last = record { place = at; node = n.Dotted (f ∷ fs) last }

abbrev pub Node : Type 0
Node = o.SyntaxNode-F SyntaxNode Syntax

abbrev pub ident_matches : (Ident → Bool) → Node → Option Binds
ident_matches is (o.Ident x) = when (is x)
ident_matches is x = None

abbrev pub boolean_matches : Bool → Node → Option Binds
boolean_matches x (o.Boolean y) = when (if x then y else not y)
boolean_matches x y = None

abbrev pub integer_matches : ℤ → Node → Option Binds
integer_matches x (o.Integer y) = when (int_eq x y)
integer_matches x y = None

abbrev pub char_matches : ℕ → Node → Option Binds
char_matches x (o.Char y) = when (x == y)
char_matches x y = None

abbrev pub text_matches : List ℕ → Node → Option Binds
text_matches x (o.Text y) = when (bytes_eq x y)
text_matches x y = None

abbrev pub exactly : List Matcher → List Syntax → Option Binds
exactly ms fs = both (all ms fs) (when (length ms == length fs))

abbrev pub then_each : List Matcher → Matcher → ℕ → List Syntax → Option Binds
then_each ms m w fs = both (all ms fs) (each m w (drop (length ms) fs))

abbrev pub list_parts_of : Node → Option (List Syntax)
list_parts_of (o.List fs) = Some fs
list_parts_of x = None

abbrev pub vector_parts_of : Node → Option (List Syntax)
vector_parts_of (o.Vector fs) = Some fs
vector_parts_of x = None

abbrev pub chain_parts_of : Node → Option (List Syntax)
chain_parts_of (o.List fs) = Some fs
chain_parts_of (o.Dotted fs last) = Some fs
chain_parts_of x = None

-- what is left of a list or a dotted list behind its first n forms
abbrev pub rest_from : Place → ℕ → Node → Syntax
rest_from at n (o.List fs) = list_of at (drop n fs)
rest_from at n (o.Dotted fs last) = dotted_of at (drop n fs) last
rest_from at n x = list_of at []

-- one level of a pattern, where its parts match so
abbrev pub level_matches : Literals → p.Pattern-F Matcher → Matcher
level_matches same p.Ignored f = Some []
level_matches same p.Variable f = Some (b.One f ∷ [])
level_matches same (p.Literal id) f = ident_matches (same id) (out-SyntaxNode f.node)
level_matches same (p.Boolean x) f = boolean_matches x (out-SyntaxNode f.node)
level_matches same (p.Integer x) f = integer_matches x (out-SyntaxNode f.node)
level_matches same (p.Char x) f = char_matches x (out-SyntaxNode f.node)
level_matches same (p.Text x) f = text_matches x (out-SyntaxNode f.node)
level_matches same (p.List ms) f = option_and_then (exactly ms) (list_parts_of (out-SyntaxNode f.node))
level_matches same (p.ListEach ms m w) f = option_and_then (then_each ms m w) (list_parts_of (out-SyntaxNode f.node))
level_matches same (p.Dotted ms m) f =
    option_and_then (λ fs. both (all ms fs) (m (rest_from f.place (length ms) (out-SyntaxNode f.node)))) (chain_parts_of (out-SyntaxNode f.node))
level_matches same (p.Vector ms) f = option_and_then (exactly ms) (vector_parts_of (out-SyntaxNode f.node))
level_matches same (p.VectorEach ms m w) f = option_and_then (then_each ms m w) (vector_parts_of (out-SyntaxNode f.node))

unfoldable pub matched : Literals → Pattern → Matcher
matched same p = fold-Pattern Matcher (level_matches same) p

-- a literal and an identifier of the use have the same meaning
abbrev pub literal_of : (Ident → Binding) → (Ident → Binding) → Literals
literal_of at_rules at_use id x = same_binding (at_rules id) (at_use x)
