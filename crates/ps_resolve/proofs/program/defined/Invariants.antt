use Rattle.std.proofs.Common.{◌≡◌, take}
use Rattle.ps_base.specs.Names.{AreDistinct}
use Rattle.ps_plain.specs.Forms.{names_in}
use Rattle.ps_resolve.specs.InsideDefinitions.{heads_in}
use Rattle.ps_resolve.proofs.program.defined.Given as goal

-- the names so far
abbrev pub invariant-loop-definition : goal.invariant-loop-definition
invariant-loop-definition l = record {
  so_far : l.names ≡ names_in (heads_in (take l.definition-index l.definitions));
  is_distinct : AreDistinct l.names;
}
