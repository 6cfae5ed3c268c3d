use Rattle.std.proofs.Common.{◌∙◌, ℕ, List, length, map, ap, sym}
use Rattle.std.proofs.lemmas.List.{length-map}
use Rattle.ps_calls.specs.Applied.{names_in}
use Rattle.ps_derived.specs.Seen.{seen_binding}
use Rattle.ps_expansion.specs.Does.{state_of}
use Rattle.ps_hygiene.specs.Runs.{Goes}
use Rattle.ps_pattern.specs.declared.syntax.Ident.{Ident}
use Rattle.ps_plans.specs.Nodes.{Same, Staged}
use Rattle.ps_plans.specs.Parts.{Part, Row, Values}
use Rattle.ps_binders.specs.Binders.{where_named}
use Rattle.ps_binders.proofs.NumberedFirst.{locals_numbered}
use Rattle.ps_binders.proofs.letrec.letrecs.Goals as goal

pub returns : goal.returns
returns c =
    let l = c.args.level in
    let bs = map seen_binding c.args.bindings.now in
    let locals = c.in_ok-locals.locals in
    let part : Part = Row (Values c.args.at bs locals c.args.body.now) in
    let now = state_of c.next_locals.new.self in
    record {
      wanted = locals_numbered c.args.task.now.limits.now l.left c.args.at (length bs) (length c.args.bindings.now)
          (λ ls. Same (where_named l (names_in bs) ls (Row (Values c.args.at bs ls c.args.body.now))))
          (state_of c.args.state.now) (state_of c.node.new.self) now locals
          (length-map c.args.bindings.now seen_binding) c.in_ok-node.ensures.wanted c.in_ok-locals.ensures.answer.wanted
          ∙ ap (λ (p : Staged). Goes (Same p) now)
          (sym (c.in_ok-rest.ensures ∙ ap (λ (xs : List Ident). where_named l xs c.in_ok-bound.bound part) c.in_ok-names.ensures
          ∙ ap (λ (ls : List ℕ). where_named l (names_in bs) ls part) (c.in_ok-bound.ensures ∙ c.as_slice.ensures)));
      same = c.in_ok-locals.ensures.answer.same ∙ c.in_ok-node.ensures.same;
    }
