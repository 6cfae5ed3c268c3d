use Rattle.std.proofs.Common.{ap, sym, ◌∙◌, map}
use Rattle.ps_derived.specs.Quotation.{is_constant, node_constant, some_constant}
use Rattle.ps_derived.proofs.Constants.{vector_constant}
use Rattle.ps_derived.proofs.quotation.+quoting.Goals as goal

pub is_constant_node-returns-in-Vector : goal.is_constant_node-returns-in-Vector
is_constant_node-returns-in-Vector t c = c.are_some_constant.ensures ∙ ap (λ fs. some_constant (map is_constant fs)) c.as_slice.ensures ∙ sym (ap node_constant c.in-Vector.is ∙ vector_constant c.in-Vector.parts)
