use Rattle.std.proofs.Common.{arith, rules}
use Rattle.ps_types.specs.Writing.{variables, before}
use Rattle.ps_types.proofs.DifferentMembersCount.{all_from_0, none_counts, least_counts}
use Rattle.ps_types.proofs.numbering.number_of.Goals as goal

pub loop-other-init : goal.loop-other-init
loop-other-init c = record { counted = rw (all_from_0 (before c.args.variable (variables c.args.t.now))) (omega arith); within = omega arith; bound = omega arith }

pub loop-other-preserved : goal.loop-other-preserved
loop-other-preserved c = record {
  counted = omega (arith, c.loop-other.invariant.counted, least_counts c.loop-other.floor c.in-Some.other (before c.args.variable (variables c.args.t.now)) c.in-Some.ensures);
  within = omega (arith, c.in-Some.ensures.reaches, c.loop-other.invariant.within);
  bound = search rules;
}

pub returns-in-None : goal.returns-in-None
returns-in-None c = omega (arith, c.loop-other.invariant.counted, none_counts c.loop-other.floor (before c.args.variable (variables c.args.t.now)) c.in-None.ensures)
