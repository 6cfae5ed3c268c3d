-- Parts, nodes and plans as the code holds them, with each form in place of the reference to it (this project's own).
use Rattle.std.specs.Prelude.{ℕ, List, map}
use Rattle.std.specs.Option.{option_map}
use Rattle.ps_bodies.specs.InsideBodies.{seen_members}
use Rattle.ps_derived.specs.Seen.{idents, seen_binding, seen_clause, seen_macro}
use Rattle.ps_plans.specs.declared.part.Operand.{Operand}
use Rattle.ps_plans.specs.declared.part.Operand.TheVariants as o
use Rattle.ps_plans.specs.declared.part.Lets.{Lets}
use Rattle.ps_plans.specs.declared.part.Round.{Round}
use Rattle.ps_plans.specs.declared.part.Piece.{Piece}
use Rattle.ps_plans.specs.declared.part.Piece.TheVariants as c
use Rattle.ps_plans.specs.declared.part.Part.{Part}
use Rattle.ps_plans.specs.declared.part.Part.TheVariants as t
use Rattle.ps_plans.specs.declared.node.Scope.{Scope}
use Rattle.ps_plans.specs.declared.node.Scope.TheVariants as s
use Rattle.ps_plans.specs.declared.node.Staged.{Staged}
use Rattle.ps_plans.specs.declared.node.Inside.{Inside}
use Rattle.ps_plans.specs.declared.node.Choice.{Choice}
use Rattle.ps_plans.specs.declared.node.Node.{Node}
use Rattle.ps_plans.specs.declared.node.Node.TheVariants as m
use Rattle.ps_plans.specs.declared.node.Plan.{Plan}
use Rattle.ps_plans.specs.declared.node.Plan.TheVariants as l
use Rattle.ps_plans.specs.Nodes as n
use Rattle.ps_plans.specs.Parts as p

abbrev pub seen_operand : Operand → p.Operand
seen_operand (o.Given f) = p.Given f.now
seen_operand (o.Held at x) = p.Held at x

abbrev pub seen_operands : List Operand → List p.Operand
seen_operands ps = map seen_operand ps

abbrev pub seen_lets : Lets → p.LetsOf
seen_lets x = record { names = idents x.names; locals = x.locals; values = seen_operands x.values.items; place = x.place; body = x.body.now }

abbrev pub seen_round : Round → p.RoundOf
seen_round x = record { local = x.local; test = x.test.now; results = x.results.now; commands = x.commands.now; nexts = seen_operands x.nexts.items }

abbrev pub seen_piece : Piece → p.Piece
seen_piece (c.Mention at x) = p.Mention at x
seen_piece (c.Fixed at v) = p.Fixed at v
seen_piece (c.Expressions at f fs) = p.Expressions at f.now fs.now
seen_piece (c.Sequence at fs) = p.Sequence at fs.now
seen_piece (c.Ands at fs) = p.Ands at fs.now
seen_piece (c.Ors at fs) = p.Ors at fs.now
seen_piece (c.Conds at cs last) = p.Conds at (map seen_clause cs.now) (option_map (λ fs. fs.now) last)
seen_piece (c.Arrow at x f cs last) = p.Arrow at x f.now (map seen_clause cs.now) (option_map (λ fs. fs.now) last)
seen_piece (c.Branch at ls fs) = p.Branch at ls.now fs.now
seen_piece (c.Lambda at xs fs) = p.Lambda at (idents xs) fs.now
seen_piece (c.Lets at x) = p.Lets at (seen_lets x)
seen_piece (c.Stars at bs fs) = p.Stars at (map seen_binding bs.now) fs.now
seen_piece (c.Values at bs ls fs) = p.Values at (map seen_binding bs.now) ls fs.now
seen_piece (c.Round at x) = p.Round at (seen_round x)
seen_piece (c.Commands at fs x ps) = p.Commands at fs.now x (seen_operands ps.items)
seen_piece (c.Again at x ps) = p.Again at x (seen_operands ps.items)

abbrev pub seen_part : Part → p.Part
seen_part (t.One f) = p.One f.now
seen_part (t.Settled f) = p.Settled f.now
seen_part (t.Body at fs) = p.Body at fs.now
seen_part (t.Alone at fs) = p.Alone at fs.now
seen_part (t.Applied at f ps) = p.Applied at f.now (seen_operands ps.items)
seen_part (t.Row x) = p.Row (seen_piece x)

abbrev pub seen_scope : Scope → n.Scope
seen_scope s.Here = n.Here
seen_scope (s.Locals xs ls) = n.Locals (idents xs) ls
seen_scope (s.Keywords ms m) = n.Keywords (map seen_macro ms.now) m

abbrev pub seen_staged : Staged → n.Staged
seen_staged x = record { level = x.level; scope = seen_scope x.scope; part = seen_part x.part }

abbrev pub seen_all : List Staged → List n.Staged
seen_all xs = map seen_staged xs

abbrev pub seen_inside : Inside → n.InsideOf
seen_inside x = record { number = x.number; place = x.place; parameters = x.parameters; body = seen_staged x.body }

abbrev pub seen_choice : Choice → n.ChoiceOf
seen_choice x = record { labels = x.labels; body = seen_staged x.body }

abbrev pub seen_choices : List Choice → List n.ChoiceOf
seen_choices xs = map seen_choice xs

abbrev pub seen_node : Node → n.Node
seen_node (m.Begin xs) = n.Begin (seen_all xs.items)
seen_node (m.Call tail f xs) = n.Call tail (seen_staged f) (seen_all xs.items)
seen_node (m.ProperCall f xs) = n.ProperCall (seen_staged f) (seen_all xs.items)
seen_node (m.Primitive q xs) = n.Primitive q (seen_all xs.items)
seen_node (m.Sum q x xs) = n.Sum q (seen_staged x) (seen_all xs.items)
seen_node (m.If x y z) = n.If (seen_staged x) (seen_staged y) (seen_staged z)
seen_node (m.Let x v r) = n.Let x (seen_staged v) (seen_staged r)
seen_node (m.SetLocal x v) = n.SetLocal x (seen_staged v)
seen_node (m.SetGlobal g v) = n.SetGlobal g (seen_staged v)
seen_node (m.Lambda x) = n.Lambda (seen_inside x)
seen_node (m.Group es l ms r) = n.Group es l (seen_members ms.items) (seen_staged r)
seen_node (m.Loop x i r) = n.Loop x (seen_inside i) (seen_staged r)
seen_node (m.Case k v xs r) = n.Case k (seen_staged v) (seen_choices xs.items) (seen_staged r)
seen_node (m.Ifs x v xs r) = n.Ifs x (seen_staged v) (seen_choices xs.items) (seen_staged r)

abbrev pub seen_plan : Plan → n.Plan
seen_plan (l.Done e) = n.Done e
seen_plan (l.Same x) = n.Same (seen_staged x)
seen_plan (l.Of at x) = n.Of at (seen_node x)
