use Rattle.std.proofs.Common.{◌≡◌, ◌++◌, drop}
use Rattle.ps_survive.specs.Kept.{globals}
use Rattle.ps_reify.specs.InsideWork.{program_of, flagged}
use Rattle.ps_reify.proofs.keep.globals.Given as goal

abbrev pub invariant-loop-value : goal.invariant-loop-value
invariant-loop-value g l = record {
  built : l.list ++ globals (program_of l.image) (flagged l.walk) l.number (drop l.value-index l.values) ≡ globals (program_of l.image) (flagged l.walk) 0 l.image.globals.now;
  at : l.number ≡ l.value-index;
  all : l.values ≡ l.image.globals.now;
}
