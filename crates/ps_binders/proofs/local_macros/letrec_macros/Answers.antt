use Rattle.std.proofs.Common.{◌∙◌, ap, sym, map}
use Rattle.ps_derived.specs.Seen.{seen_macro}
use Rattle.ps_expansion.specs.Does.{state_of, task_of}
use Rattle.ps_hygiene.specs.Runs.{Goes}
use Rattle.ps_hygiene.specs.Worlds.{World}
use Rattle.ps_hygiene.specs.declared.hygiene.Hygiene.{Hygiene}
use Rattle.ps_plans.specs.Nodes.{Same}
use Rattle.ps_plans.specs.Seen.{seen_staged}
use Rattle.ps_binders.proofs.EnvironmentsAreLeft.{held_are_left, rules_stand_inside}
use Rattle.ps_binders.proofs.local_macros.letrec_macros.Goals as goal

pub returns : goal.returns
returns c =
    let env = c.args.state.now.hygiene.here in
    let ms = c.args.macros.now in
    let first = c.in_ok-first.first in
    let bound = c.bind_macros.new.self in
    let added = c.add_macros.new.self in
    let part = seen_staged c.in_ok-rest.rest in
    record {
      wanted = rules_stand_inside (task_of c.args.task.now) c.args.level c.args.at env bound.hygiene.here (map seen_macro ms)
          c.args.body.now (state_of c.args.state.now) (state_of bound) (state_of added) first part c.in_ok-first.ensures.number
          c.in_ok-bind_macros.ensures.bound c.in_ok-bind_macros.ensures.state c.in_ok-add_macros.ensures.wanted c.in_ok-rest.ensures
          ∙ ap (λ (w : World). Goes (Same part) (record (state_of added) { world = w }))
          (sym (ap (λ (h : Hygiene). h.world) c.leave.ensures));
      same = ap (λ (h : Hygiene). h.here) c.leave.ensures
          ∙ held_are_left ms first env added.hygiene.here (c.in_ok-add_macros.ensures.same ∙ c.in_ok-bind_macros.ensures.bound);
    }
