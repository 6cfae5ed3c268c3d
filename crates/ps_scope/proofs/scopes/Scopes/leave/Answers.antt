use Rattle.std.proofs.Common.{◌≡◌, ◌∙◌, ◌≤◌, ap, sym, length, drop, arith}
use Rattle.std.proofs.lemmas.List.{drop_all}
use Rattle.ps_scope.proofs.Places.{drop_next}
use Rattle.ps_scope.proofs.scopes.Scopes.leave.Goals as goal
use Rattle.ps_scope.proofs.scopes.Scopes.leave.Goals.{then-count-all, else-count-all}

pub loop-i-preserved : goal.loop-i-preserved
loop-i-preserved c = record {
  here = c.leave_one.ensures.here ∙ ap (drop 1) c.loop-i.invariant.here ∙ drop_next c.args.self.now.here c.loop-i.i;
  kept = c.leave_one.ensures.kept ∙ c.loop-i.invariant.kept;
}

pub returns-clause-here : goal.returns-clause-here
returns-clause-here c =
    let here = c.args.self.now.here in
    let same : drop c.loop-i.i here ≡ drop c.args.count here =
    elim c.if-count-all.branch [
      | then-count-all w ↦ (let z : c.loop-i.i ≡ c.args.count = omega (arith, w.count-is, c.loop-i-test.false, c.loop-i.auto.i-end) in ap (λ i. drop i here) z)
      | else-count-all w ↦
          (let few : length here ≤ c.loop-i.i = omega (arith, w.count-is, c.loop-i-test.false, c.len-all.ensures) in
          let more : length here ≤ c.args.count = omega (arith, w.if-count-all.false, c.len-all.ensures) in
          drop_all c.loop-i.i here few ∙ sym (drop_all c.args.count here more))
    ] in
    c.loop-i.invariant.here ∙ same
