use Rattle.std.proofs.Common.{rules, ◌+◌, refl}
use Rattle.ps_pattern.specs.Filling.{size, sizes}
use Rattle.ps_pattern.specs.Matching.{list_of}
use Rattle.ps_pattern.proofs.Weights.{around_list_fits, around_list_large, too_large}
use Rattle.ps_pattern.proofs.filling.around_list.Goals as goal

pub returns-then-parts-eq0 : goal.returns-then-parts-eq0
returns-then-parts-eq0 c = too_large size (list_of c.args.place c.args.parts.made) (c.args.parts.left + sizes c.args.parts.made) (around_list_large c.args.place c.args.parts.made c.args.parts.left (search rules))

pub returns-else-parts-eq0 : goal.returns-else-parts-eq0
returns-else-parts-eq0 c = (refl, around_list_fits c.args.place c.args.parts.made c.args.parts.left (search rules))
