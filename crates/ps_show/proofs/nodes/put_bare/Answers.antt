use Rattle.ps_kernel.specs.declared.expr.ExprKind.TheVariants as v
use Rattle.ps_show.proofs.nodes.put_bare.Goals as goal

pub returns-in-Primitive : goal.returns-in-Primitive
returns-in-Primitive c = rw (c.in-Primitive.is, v.outs-Primitive) c.put.ensures
