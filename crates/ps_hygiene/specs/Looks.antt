-- What the code tells of a form.
use Rattle.ps_hygiene.specs.declared.shape.Shape.{Shape}
use Rattle.ps_hygiene.specs.declared.shape.Shape.TheVariants as t
use Rattle.ps_hygiene.specs.Forms as f

abbrev pub seen : Shape → f.Shape
seen (t.Boolean x) = f.Boolean x
seen (t.Integer n) = f.Integer n.now
seen (t.Char c) = f.Char c
seen (t.Text bytes) = f.Text bytes.now
seen (t.Name meant) = f.Name meant
seen (t.Special core) = f.Special core
seen (t.Use m) = f.Use m
seen (t.Call g fs) = f.Call g.now fs.now
seen t.Bad = f.Bad
