use Rattle.std.proofs.Common.{◌≡◌, ◌∙◌, ℕ, List, ◌∷◌, length, map, ap}
use Rattle.std.proofs.lemmas.List.{length-map}
use Rattle.std.specs.Borrow.{Bor}
use Rattle.ps_calls.specs.Applied.{names_in, values_in}
use Rattle.ps_derived.specs.Seen.{idents, seen_binding}
use Rattle.ps_expansion.specs.Does.{state_of}
use Rattle.ps_expansion.specs.Levels.{inner}
use Rattle.ps_hygiene.specs.Runs.{Goes}
use Rattle.ps_pattern.specs.declared.syntax.Ident.{Ident}
use Rattle.ps_plans.specs.Nodes.{Plan}
use Rattle.ps_plans.specs.Parts.{Body, givens}
use Rattle.ps_plans.specs.Seen.{seen_operands, seen_plan, seen_staged}
use Rattle.ps_binders.specs.Binders.{loop_at, where_named}
use Rattle.ps_binders.proofs.NumberedFirst.{loop_numbered}
use Rattle.ps_binders.proofs.PlansOfLoops.{named_plan}
use Rattle.ps_binders.proofs.loops.named_lets.Goals as goal

pub returns : goal.returns
returns c =
    let l = c.args.level in
    let at = c.args.at in
    let fs = c.args.body.now in
    let bs = map seen_binding c.args.bindings.now in
    let f = c.args.name.now in
    let x = c.in_ok-local.local in
    let n = c.in_ok-number.number in
    let ps = c.in_ok-parameters.parameters in
    let now = state_of c.next_locals.new.self in
    let names : idents c.in_ok-names.names ≡ f ∷ names_in bs
    = ap (λ (xs : List (Bor Ident)). idents xs) c.in_ok-names.ensures
    ∙ ap (λ (xs : List Ident). f ∷ xs) (ap (λ (xs : List (Bor Ident)). idents xs) c.as_slice.ensures ∙ c.in_ok-variables.ensures) in
    let locals : c.in_ok-locals.locals ≡ x ∷ ps
    = c.in_ok-locals.ensures ∙ ap (λ (xs : List ℕ). x ∷ xs) c.as_slice-2.ensures in
    record {
      wanted = loop_numbered c.args.task.now.limits.now l.left at (length bs) (length c.args.bindings.now)
          (λ y i xs. loop_at l at y (record
          { number = i; place = at; parameters = xs; body = where_named (inner l) (f ∷ names_in bs) (y ∷ xs) (Body at fs) })
          (givens (values_in bs)))
          (state_of c.args.state.now) (state_of c.node.new.self) (state_of c.next_local.new.self) (state_of c.next_lambda.new.self) now
          x n ps (length-map c.args.bindings.now seen_binding) c.in_ok-node.ensures.wanted c.in_ok-local.ensures.wanted
          c.in_ok-number.ensures.wanted c.in_ok-parameters.ensures.answer.wanted
          ∙ ap (λ (p : Plan). Goes p now) (named_plan l c.inner.result at x n ps fs (idents c.in_ok-names.names) (f ∷ names_in bs)
          c.in_ok-locals.locals (seen_staged c.in_ok-body.body) (seen_operands c.in_ok-firsts.firsts.items) (givens (values_in bs))
          (seen_plan c.in_ok-loop_at.field-0) c.inner.ensures names locals c.in_ok-body.ensures c.in_ok-firsts.ensures
          c.in_ok-loop_at.ensures);
      same = c.in_ok-parameters.ensures.answer.same ∙ c.in_ok-number.ensures.same ∙ c.in_ok-local.ensures.same ∙ c.in_ok-node.ensures.same;
    }
