use Rattle.std.proofs.Common.{◌≡◌, List, [], ℕ, map, replicate, Some, None, sym, ap, ◌∙◌}
use Rattle.ps_datum.specs.declared.datum.Datum.{Datum}
use Rattle.ps_prims.specs.Cells.{cells_in}
use Rattle.ps_meaning.specs.Literals.{laid, lay_all, lay_parts}
use Rattle.ps_static_eval.specs.InsideLaying.{filled, left_after}
use Rattle.ps_static_eval.specs.InsideMachine.{Left, left}
use Rattle.ps_static_eval.proofs.FormsComeToTop.{begun, start, finishes, refuses}
use Rattle.ps_static_eval.proofs.evaluating.evaluate.Goals as goal

pub returns-in-None : goal.returns-in-None
returns-in-None g c =
    let k = c.args.kernel.now in
    let limits = c.args.limits.now in
    let s : Left = record { calls = limits.budget; cells = c.in-Some.cells; store = c.replace.result; globals = c.in_ok-globals.globals; world = c.new-4.result; events = c.new-5.result } in
    let paid : Some c.in-Some.cells ≡ left_after (cells_in (lay_all k.literals).blocks) limits.cells =
    sym c.in-Some.is ∙ c.pay_all.ensures ∙ ap (λ (ds : List Datum). left_after (cells_in (lay_parts (map laid ds) 0).blocks) limits.cells) c.as_slice.ensures in
    let begins : s ≡ start k limits.budget c.in-Some.cells =
    begun k limits.budget c.in-Some.cells c.replace.result c.in_ok-globals.globals c.new-4.result c.new-5.result
    (c.replace.ensures.value ∙ c.in_ok-lay_each.ensures [] c.requires.empty ∙ ap (λ (ds : List Datum). filled (lay_parts (map laid ds) 0).blocks) c.as_slice-2.ensures)
    (c.in_ok-globals.ensures ∙ ap (λ (n : ℕ). replicate n None) c.len.ensures)
    (c.new-4.ensures ∙ (λ j. record { input = c.new-2.ensures j; grants = c.new-3.ensures j }))
    c.new-5.ensures in
    finishes k limits c.in-Some.cells s (left c.run_forms.new.machine) c.in_ok-halt.halt paid begins c.in_ok-halt.ensures c.in-None.is

pub returns : goal.returns
returns g c =
    let k = c.args.kernel.now in
    let limits = c.args.limits.now in
    let s : Left = record { calls = limits.budget; cells = c.in-Some.cells; store = c.replace.result; globals = c.in_ok-globals.globals; world = c.new-4.result; events = c.new-5.result } in
    let paid : Some c.in-Some.cells ≡ left_after (cells_in (lay_all k.literals).blocks) limits.cells =
    sym c.in-Some.is ∙ c.pay_all.ensures ∙ ap (λ (ds : List Datum). left_after (cells_in (lay_parts (map laid ds) 0).blocks) limits.cells) c.as_slice.ensures in
    let begins : s ≡ start k limits.budget c.in-Some.cells =
    begun k limits.budget c.in-Some.cells c.replace.result c.in_ok-globals.globals c.new-4.result c.new-5.result
    (c.replace.ensures.value ∙ c.in_ok-lay_each.ensures [] c.requires.empty ∙ ap (λ (ds : List Datum). filled (lay_parts (map laid ds) 0).blocks) c.as_slice-2.ensures)
    (c.in_ok-globals.ensures ∙ ap (λ (n : ℕ). replicate n None) c.len.ensures)
    (c.new-4.ensures ∙ (λ j. record { input = c.new-2.ensures j; grants = c.new-3.ensures j }))
    c.new-5.ensures in
    refuses k limits c.in-Some.cells s (left c.run_forms.new.machine) c.in_ok-halt.halt c.in-Some-halt.halt c.fault_of.result paid begins c.in_ok-halt.ensures c.in-Some-halt.is c.fault_of.ensures
