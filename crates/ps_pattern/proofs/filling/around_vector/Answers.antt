use Rattle.std.proofs.Common.{rules, ◌+◌, refl}
use Rattle.ps_pattern.specs.Filling.{size, sizes, vector_of}
use Rattle.ps_pattern.proofs.Weights.{around_vector_fits, around_vector_large, too_large}
use Rattle.ps_pattern.proofs.filling.around_vector.Goals as goal

pub returns-then-parts-eq0 : goal.returns-then-parts-eq0
returns-then-parts-eq0 c = too_large size (vector_of c.args.place c.args.parts.made) (c.args.parts.left + sizes c.args.parts.made) (around_vector_large c.args.place c.args.parts.made c.args.parts.left (search rules))

pub returns-else-parts-eq0 : goal.returns-else-parts-eq0
returns-else-parts-eq0 c = (refl, around_vector_fits c.args.place c.args.parts.made c.args.parts.left (search rules))
