-- Forms of data and data of forms (this project's own). Read `form_of d` as: the form of the datum d, whose identifiers nothing
-- has inserted, and `data_of f` as: the datum of the form f, whose names are the base names of its identifiers.
use Rattle.std.specs.Prelude.{[]}
use Rattle.ps_datum.specs.declared.datum.Datum.{Datum, fold-Datum}
use Rattle.ps_datum.specs.declared.datum.DatumKind.{DatumKind, fold-DatumKind}
use Rattle.ps_datum.specs.declared.datum.DatumKind.TheVariants as k
use Rattle.ps_datum.specs.declared.datum.DatumKind.TheOpen as d
use Rattle.ps_pattern.specs.declared.syntax.Syntax.{Syntax, fold-Syntax}
use Rattle.ps_pattern.specs.declared.syntax.SyntaxNode.{SyntaxNode, fold-SyntaxNode}
use Rattle.ps_pattern.specs.declared.syntax.SyntaxNode.TheVariants as n
use Rattle.ps_pattern.specs.declared.syntax.SyntaxNode.TheOpen as o

abbrev pub level_node : d.DatumKind-F SyntaxNode Syntax → SyntaxNode
level_node (d.Boolean x) = n.Boolean x
level_node (d.Integer x) = n.Integer x
level_node (d.Char x) = n.Char x
level_node (d.Text x) = n.Text x
level_node (d.Symbol x) = n.Ident (record { name = x; stamps = [] })
level_node (d.List fs) = n.List fs
level_node (d.Dotted fs f) = n.Dotted fs f
level_node (d.Vector fs) = n.Vector fs

unfoldable pub form_of : Datum → Syntax
form_of x = fold-Datum SyntaxNode Syntax level_node (λ y. record { place = y.place; node = y.kind }) x

unfoldable pub node_of : DatumKind → SyntaxNode
node_of x = fold-DatumKind SyntaxNode Syntax level_node (λ y. record { place = y.place; node = y.kind }) x

abbrev pub level_kind : o.SyntaxNode-F DatumKind Datum → DatumKind
level_kind (o.Boolean x) = k.Boolean x
level_kind (o.Integer x) = k.Integer x
level_kind (o.Char x) = k.Char x
level_kind (o.Text x) = k.Text x
level_kind (o.Ident id) = k.Symbol id.name
level_kind (o.List ds) = k.List ds
level_kind (o.Dotted ds x) = k.Dotted ds x
level_kind (o.Vector ds) = k.Vector ds

unfoldable pub data_of : Syntax → Datum
data_of f = fold-Syntax DatumKind Datum level_kind (λ y. record { place = y.place; kind = y.node }) f

unfoldable pub kind_of : SyntaxNode → DatumKind
kind_of f = fold-SyntaxNode DatumKind Datum level_kind (λ y. record { place = y.place; kind = y.node }) f
