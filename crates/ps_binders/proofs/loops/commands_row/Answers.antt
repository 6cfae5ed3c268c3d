use Rattle.std.proofs.Common.{◌∙◌, List, [], ◌∷◌, ◌++◌, ap}
use Rattle.std.proofs.lemmas.List.{map-append}
use Rattle.ps_expansion.specs.Does.{state_of, task_of}
use Rattle.ps_expansion.specs.Levels.{down}
use Rattle.ps_expansion.specs.declared.level.Level.{Level}
use Rattle.ps_plans.specs.Nodes.{Staged, staged, staged_forms}
use Rattle.ps_plans.specs.Parts.{Row, Again}
use Rattle.ps_plans.specs.Seen.{seen_all, seen_operands, seen_staged}
use Rattle.ps_plans.specs.declared.node.Staged.{Staged as Held}
use Rattle.ps_binders.proofs.PlansOfLoops.{commands_plan}
use Rattle.ps_binders.proofs.loops.commands_row.Goals as goal

pub returns-in_ok-push_back-in-len1-up : goal.returns-in_ok-push_back-in-len1-up
returns-in_ok-push_back-in-len1-up c =
    let ps = seen_operands c.args.nexts.items in
    let again = Row (Again c.args.at c.args.local ps) in
    let fs = c.args.forms.now in
    let front = c.in_ok-parts-in-len1-up.parts.items in
    let last = c.in_ok-again-in-len1-up.again in
    record {
      wanted = commands_plan (task_of c.args.task.now) c.args.level c.args.at fs c.args.local ps (state_of c.args.state.now)
          (state_of c.node.new.self) _ c.in-len1-up.len_at_least c.in_ok-node-in-len1-up.ensures.wanted
          (ap (λ (xs : List Held). seen_all xs) c.in_ok-push_back-in-len1-up.ensures.items
          ∙ map-append seen_staged front (last ∷ [])
          ∙ ap (λ (xs : List Staged). xs ++ seen_staged last ∷ []) (c.in_ok-parts-in-len1-up.ensures
          ∙ ap (λ (l : Level). staged_forms l fs) c.down.ensures)
          ∙ ap (λ (x : Staged). staged_forms (down c.args.level) fs ++ x ∷ []) (c.in_ok-again-in-len1-up.ensures
          ∙ ap (λ (l : Level). staged l again) c.passed.ensures));
      same = c.in_ok-node-in-len1-up.ensures.same;
    }
