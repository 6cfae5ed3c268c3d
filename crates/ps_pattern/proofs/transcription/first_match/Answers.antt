use Rattle.std.proofs.Common.{rules, sym, subst}
use Rattle.ps_pattern.specs.Matching.{Literals, literal_of}
use Rattle.ps_pattern.specs.Transcribing.{Transcribed}
use Rattle.ps_pattern.proofs.Lists.{got}
use Rattle.ps_pattern.proofs.Choosing.{passed, taken_rule}
use Rattle.ps_pattern.proofs.transcription.first_match.Goals as goal

pub loop-rule-preserved : goal.loop-rule-preserved
loop-rule-preserved g c =
    let same : Literals = literal_of (g.S.Scope.rules_of c.args.scope.now) (g.S.Scope.use_of c.args.scope.now) in
    passed same c.args.stamp c.args.form.now c.args.rules.now c.loop-rule.rule-index c.rule-item.result (got c.args.rules.now c.loop-rule.rule-index c.rule-item.result c.loop-rule-test.true c.rule-item.is) c.loop-rule.invariant (search rules)

pub returns-in-Some : goal.returns-in-Some
returns-in-Some g c =
    let same : Literals = literal_of (g.S.Scope.rules_of c.args.scope.now) (g.S.Scope.use_of c.args.scope.now) in
    subst (λ z. Transcribed z c.args.room c.within.result) (sym (taken_rule same c.args.stamp c.args.form.now c.args.rules.now c.loop-rule.rule-index c.rule-item.result _ (got c.args.rules.now c.loop-rule.rule-index c.rule-item.result c.loop-rule-test.true c.rule-item.is) c.loop-rule.invariant (search rules))) c.within.ensures
