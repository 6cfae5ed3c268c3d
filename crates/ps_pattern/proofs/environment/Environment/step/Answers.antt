use Rattle.std.proofs.Common.{◌≡◌, [], ◌∷◌, ◌++◌, map, ap, ◌∙◌}
use Rattle.ps_pattern.specs.Filling.{at_step, walked}
use Rattle.ps_pattern.proofs.Walks.{step_is}
use Rattle.ps_pattern.proofs.environment.Environment.step.Goals as goal

pub returns : goal.returns
returns c =
    let path : c.push.new.self.items ≡ c.self.inside.path.items ++ c.args.i ∷ [] = c.in_ok-push.ensures.items ∙ ap (λ z. z ++ c.args.i ∷ []) (c.in_ok-path.ensures.items ∙ c.as_slice.ensures.value) in
    ap (λ p. map (walked p) c.self.inside.binds.now) path ∙ step_is c.self.inside.path.items c.args.i c.self.inside.binds.now ∙ ap (λ bs. at_step bs c.args.i) c.self.view_is
