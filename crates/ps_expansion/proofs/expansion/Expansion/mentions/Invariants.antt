use Rattle.std.proofs.Common.{◌≡◌, [], drop}
use Rattle.ps_expansion.specs.Does.{state_of}
use Rattle.ps_expansion.specs.Names.{mentions}
use Rattle.ps_expansion.proofs.expansion.Expansion.mentions.Given as goal

abbrev pub invariant-loop-x : goal.invariant-loop-x
invariant-loop-x l = record {
  here : l.self.hygiene.here ≡ l.fn.self.hygiene.here;
  so_far : mentions l.task.limits.now l.level l.at (drop l.x-index l.locals) l.all (state_of l.self) ≡ mentions l.task.limits.now l.level l.at l.locals [] (state_of l.fn.self);
}
