use Rattle.std.proofs.Common.{rules, ◌≡◌, ◌∷◌, []}
use Rattle.ps_modules.proofs.UserIsNamed.{user_is}
use Rattle.ps_modules.proofs.linking.user_of.Goals as goal

pub returns : goal.returns
returns c =
    let all : c.push.new.self ≡ c.in_ok-structure.structure ∷ [] = search rules in
    user_is _ _ _ c.in_ok-name.name c.in_ok-main.main _ c.in_ok-structure.structure _ c.in_ok-name.ensures.ok c.in_ok-name.ensures.distinct c.in_ok-main.ensures.ok c.in_ok-main.ensures.distinct c.in_ok-structure.ensures all
