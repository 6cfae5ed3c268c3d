use Rattle.std.proofs.Common.{◌≡◌, ◌∙◌, ℕ, List, length, map, ap}
use Rattle.std.proofs.lemmas.List.{length-map}
use Rattle.ps_derived.specs.Seen.{idents, seen_loop_binding}
use Rattle.ps_expansion.specs.Does.{state_of}
use Rattle.ps_expansion.specs.Levels.{inner}
use Rattle.ps_hygiene.specs.Runs.{Goes}
use Rattle.ps_plans.specs.Nodes.{Plan}
use Rattle.ps_plans.specs.Parts.{Operand, Part, Row, Round, givens}
use Rattle.ps_plans.specs.Seen.{seen_inside, seen_operands, seen_plan}
use Rattle.ps_binders.specs.Binders.{body_inside, firsts, loop_at, loop_names, steps}
use Rattle.ps_binders.proofs.NumberedFirst.{loop_numbered}
use Rattle.ps_binders.proofs.PlansOfLoops.{do_plan}
use Rattle.ps_binders.proofs.loops.dos.Goals as goal

pub returns : goal.returns
returns c =
    let l = c.args.level in
    let at = c.args.at in
    let vs = map seen_loop_binding c.args.bindings.now in
    let x = c.in_ok-local.local in
    let n = c.in_ok-number.number in
    let ls = c.in_ok-locals.locals in
    let now = state_of c.next_locals.new.self in
    let part : ℕ → List Operand → Part = λ y ps. Row (Round at (record
    { local = y; test = c.args.test.now; results = c.args.results.now; commands = c.args.commands.now; nexts = ps })) in
    let given = seen_operands c.in_ok-nexts.nexts.items in
    let nexts : given ≡ steps at vs ls = c.in_ok-nexts.ensures ∙ ap (λ (xs : List ℕ). steps at vs xs) c.as_slice.ensures in
    record {
      wanted = loop_numbered c.args.task.now.limits.now l.left at (length vs) (length c.args.bindings.now)
          (λ y i xs. loop_at l at y (body_inside (inner l) i at (loop_names vs) xs (part y (steps at vs xs))) (givens (firsts vs)))
          (state_of c.args.state.now) (state_of c.node.new.self) (state_of c.next_local.new.self) (state_of c.next_lambda.new.self) now
          x n ls (length-map c.args.bindings.now seen_loop_binding) c.in_ok-node.ensures.wanted c.in_ok-local.ensures.wanted
          c.in_ok-number.ensures.wanted c.in_ok-locals.ensures.answer.wanted
          ∙ ap (λ (p : Plan). Goes p now) (do_plan l c.inner.result at x n ls (idents c.in_ok-names.names) (loop_names vs)
          (part x given) (part x (steps at vs ls)) (seen_inside c.in_ok-inside.inside) (seen_operands c.in_ok-firsts.firsts.items)
          (givens (firsts vs)) (seen_plan c.in_ok-loop_at.field-0) c.inner.ensures c.in_ok-names.ensures
          (ap (λ (ps : List Operand). part x ps) nexts) c.in_ok-inside.ensures c.in_ok-firsts.ensures c.in_ok-loop_at.ensures);
      same = c.in_ok-locals.ensures.answer.same ∙ c.in_ok-number.ensures.same ∙ c.in_ok-local.ensures.same ∙ c.in_ok-node.ensures.same;
    }
