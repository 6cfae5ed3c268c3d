use Rattle.std.proofs.Common.{ap, ◌∙◌}
use Rattle.ps_meaning.specs.Literals.{lay_all}
use Rattle.ps_reify.proofs.TablesTellDefinitions.{image_table}
use Rattle.ps_reify.proofs.image.image_of.Goals as goal

pub returns-clause-image : goal.returns-clause-image
returns-clause-image g c = record {
  valid = c.requires.valid;
  procedures = image_table c.args.kernel.now c.requires.valid c.len.result c.as_slice.result.now c.in_ok-procedures.field-0 c.len.ensures c.as_slice.ensures c.in_ok-procedures.ensures;
  literals = c.in_ok-values_of.ensures ∙ ap (λ ds. (lay_all ds).values) c.as_slice-2.ensures;
}
