-- How a template is filled in (R5RS 4.3.2). Read `filled stamp at t binds` as: the form that t gives, and nothing where it is uneven.
use Rattle.std.specs.Prelude.{ℕ, ◌+◌, ◌-◌, ◌≡◌, ◌<◌, ⊤, Bool, true, ◌==◌, ◌&&◌, leb, if◌then◌else◌, List, [], ◌∷◌, ◌++◌, length, map, Option, Some, None, Result, Ok, Err}
use Rattle.std.specs.Option.{option_map, option_and_then}
use Rattle.std.specs.List.{range_with_len}
use Rattle.ps_pattern.specs.declared.syntax.Ident.{Ident}
use Rattle.ps_base.specs.declared.faults.Place.{Place}
use Rattle.ps_pattern.specs.declared.syntax.Syntax.{Syntax, fold-Syntax}
use Rattle.ps_pattern.specs.declared.syntax.SyntaxNode.{out-SyntaxNode}
use Rattle.ps_pattern.specs.declared.syntax.SyntaxNode.TheVariants as n
use Rattle.ps_pattern.specs.declared.syntax.SyntaxNode.TheOpen as o
use Rattle.ps_pattern.specs.declared.bound.Bound.{Bound, out-Bound}
use Rattle.ps_pattern.specs.declared.bound.Bound.TheOpen as b
use Rattle.ps_pattern.specs.declared.room.Built.{Built}
use Rattle.ps_pattern.specs.declared.room.FillFault.{FillFault}
use Rattle.ps_pattern.specs.declared.room.FillFault.TheVariants.{Uneven, TooLarge, NoMemory}
use Rattle.ps_pattern.specs.declared.template.Part.{Part, fold-Part}
use Rattle.ps_pattern.specs.declared.template.Part.TheOpen as t
use Rattle.ps_pattern.specs.declared.template.Template.{Template, fold-Template}
use Rattle.ps_pattern.specs.Meaning.{nth_bound}
use Rattle.ps_pattern.specs.Matching.{Binds, Node, list_of}

abbrev pub total : List ℕ → ℕ
total [] = 0
total (x ∷ xs) = x + total xs

-- each list, vector, dotted list, identifier and datum counts 1
abbrev pub node_size : o.SyntaxNode-F ℕ ℕ → ℕ
node_size (o.List ds) = 1 + total ds
node_size (o.Vector ds) = 1 + total ds
node_size (o.Dotted ds last) = 1 + total ds + last
node_size (o.Boolean x) = 1
node_size (o.Integer x) = 1
node_size (o.Char x) = 1
node_size (o.Text x) = 1
node_size (o.Ident x) = 1

unfoldable pub size : Syntax → ℕ
size f = fold-Syntax ℕ ℕ node_size (λ x. x.node) f

abbrev pub sizes : List Syntax → ℕ
sizes fs = total (map size fs)

-- what is left of a room
abbrev pub taken : Option ℕ → ℕ → Option ℕ
taken None n = None
taken (Some left) n = if leb n left then Some (left - n) else None

abbrev pub vector_of : Place → List Syntax → Syntax
vector_of at fs = record { place = at; node = n.Vector fs }

abbrev pub single : Syntax → List Syntax
single f = f ∷ []

abbrev pub appended : Option (List Syntax) → Option (List Syntax) → Option (List Syntax)
appended (Some x) (Some y) = Some (x ++ y)
appended (Some x) None = None
appended None y = None

-- all parts, one behind another, or nothing where one is missing
abbrev pub in_order : List (Option (List Syntax)) → Option (List Syntax)
in_order [] = Some []
in_order (x ∷ xs) = appended x (in_order xs)

abbrev pub form_in : Place → b.Bound-F Bound → Syntax
form_in at (b.One f) = f
form_in at (b.Many bs) = list_of at []

abbrev pub form_of : Place → Bound → Syntax
form_of at x = form_in at (out-Bound x)

abbrev pub items_in : b.Bound-F Bound → List Bound
items_in (b.One f) = []
items_in (b.Many bs) = bs

abbrev pub items_of : Bound → List Bound
items_of x = items_in (out-Bound x)

-- how many forms the variables of an ellipsis stand for
abbrev pub counts : List ℕ → Binds → List ℕ
counts through binds = map (λ v. length (items_of (nth_bound v binds))) through

abbrev pub first_count : List ℕ → ℕ
first_count [] = 0
first_count (n ∷ ns) = n

abbrev pub all_are : ℕ → List ℕ → Bool
all_are n [] = true
all_are n (m ∷ ms) = (n == m) && all_are n ms

abbrev pub one_count : List ℕ → Option ℕ
one_count ns = if all_are (first_count ns) ns then Some (first_count ns) else None

abbrev pub turned_in : ℕ → Bound → b.Bound-F Bound → Bound
turned_in i x (b.One f) = x
turned_in i x (b.Many bs) = nth_bound i bs

-- what a variable stands for in the turn i of an ellipsis: the item i of a list, and a form as it is
abbrev pub turned : ℕ → Bound → Bound
turned i x = turned_in i x (out-Bound x)

abbrev pub at_step : Binds → ℕ → Binds
at_step binds i = map (turned i) binds

-- the same in turns of ellipses, from the outermost inwards
abbrev pub walked : List ℕ → Bound → Bound
walked [] x = x
walked (i ∷ path) x = walked path (turned i x)

abbrev pub stamped : ℕ → Ident → Ident
stamped stamp id = record { name = id.name; stamps = stamp ∷ id.stamps }

abbrev pub Filler : Type 0
Filler = Binds → Option Syntax

abbrev pub PartFiller : Type 0
PartFiller = Binds → Option (List Syntax)

abbrev pub steps : Filler → Binds → ℕ → Option (List Syntax)
steps a binds n = in_order (map (λ i. option_map single (a (at_step binds i))) (range_with_len 0 n))

abbrev pub part_filled : t.Part-F PartFiller Filler → PartFiller
part_filled (t.Plain a) binds = option_map single (a binds)
part_filled (t.Each a through) binds = option_and_then (steps a binds) (one_count (counts through binds))

abbrev pub dotted_at : Place → List Syntax → Syntax → Syntax
dotted_at at fs last = record { place = at; node = n.Dotted fs last }

-- forms before the parts of a list or a dotted list, or before any other form
abbrev pub joined_node : Place → List Syntax → Syntax → Node → Syntax
joined_node at fs last (o.List gs) = list_of at (fs ++ gs)
joined_node at fs last (o.Dotted gs end) = record { place = at; node = n.Dotted (fs ++ gs) end }
joined_node at fs last (o.Vector gs) = dotted_at at fs last
joined_node at fs last (o.Boolean x) = dotted_at at fs last
joined_node at fs last (o.Integer x) = dotted_at at fs last
joined_node at fs last (o.Char x) = dotted_at at fs last
joined_node at fs last (o.Text x) = dotted_at at fs last
joined_node at fs last (o.Ident x) = dotted_at at fs last

abbrev pub joined : Place → List Syntax → Syntax → Syntax
joined at [] last = last
joined at (f ∷ fs) last = joined_node at (f ∷ fs) last (out-SyntaxNode last.node)

abbrev pub joined_option : Place → Option (List Syntax) → Option Syntax → Option Syntax
joined_option at (Some fs) (Some last) = Some (joined at fs last)
joined_option at (Some fs) None = None
joined_option at None last = None

abbrev pub level_filled : ℕ → Place → t.Template-F PartFiller Filler → Filler
level_filled stamp at (t.Variable v) binds = Some (form_of at (nth_bound v binds))
level_filled stamp at (t.Inserted id) binds = Some (record { place = at; node = n.Ident (stamped stamp id) })
level_filled stamp at (t.Boolean x) binds = Some (record { place = at; node = n.Boolean x })
level_filled stamp at (t.Integer x) binds = Some (record { place = at; node = n.Integer x })
level_filled stamp at (t.Char x) binds = Some (record { place = at; node = n.Char x })
level_filled stamp at (t.Text x) binds = Some (record { place = at; node = n.Text x })
level_filled stamp at (t.List ps) binds = option_map (list_of at) (in_order (map (λ p. p binds) ps))
level_filled stamp at (t.Vector ps) binds = option_map (vector_of at) (in_order (map (λ p. p binds) ps))
level_filled stamp at (t.Dotted ps last) binds = joined_option at (in_order (map (λ p. p binds) ps)) (last binds)

unfoldable pub filled : ℕ → Place → Template → Filler
filled stamp at x = fold-Template PartFiller Filler part_filled (level_filled stamp at) x

unfoldable pub filled_part : ℕ → Place → Part → PartFiller
filled_part stamp at x = fold-Part PartFiller Filler part_filled (level_filled stamp at) x

-- an answer within a room: Ok and Uneven are said outright, TooLarge only if there is a result
abbrev pub Fills : {A : Type 0} → (A → ℕ) → Option A → ℕ → Result (Built A) FillFault → Type 0
Fills w want left (Ok made) = (want ≡ Some made.made) × (made.left + w made.made ≡ left)
Fills w want left (Err Uneven) = want ≡ None
Fills {A} w want left (Err TooLarge) = (x : A) → want ≡ Some x → left < w x
Fills w want left (Err NoMemory) = ⊤
