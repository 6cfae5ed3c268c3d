use Rattle.std.proofs.Common.{◌≡◌, ◌∙◌, sym, ap, Some, None, ◌∷◌}
use Rattle.ps_scope.specs.Environments.{found, defined}
use Rattle.ps_hygiene.specs.InsidePlaces.{structure_at, environment_at}
use Rattle.ps_hygiene.specs.Meanings.{counted}
use Rattle.ps_hygiene.proofs.IdentifiersAreFound.{found_around, found_own}
use Rattle.ps_hygiene.proofs.hygiene.Hygiene.means.Goals as goal

pub returns-in-Some : goal.returns-in-Some
returns-in-Some c =
    let h = c.args.self.now in
    let e : counted h.here (found (environment_at h c.stamps.at) (c.args.id.now.name.0 ∷ c.stamps.stamps.now)) ≡ Some c.in-Some.binding = sym c.find_around.ensures ∙ c.in-Some.is in
    sym (found_around h.world h.here (structure_at h c.stamps.at) (environment_at h c.stamps.at) c.args.id.now.name c.stamps.stamps.now c.in-Some.binding e) ∙ c.stamps.invariant.means_so

pub returns-in-Some-find : goal.returns-in-Some-find
returns-in-Some-find c =
    let h = c.args.self.now in
    let none : counted h.here (found (environment_at h c.stamps.at) (c.args.id.now.name.0 ∷ c.stamps.stamps.now)) ≡ None = sym c.find_around.ensures ∙ c.in_default.is in
    let own : c.self.inside.own ≡ h.world.own = ap (λ s. s.world.own) c.self.view_is in
    let e : defined h.world.own (structure_at h c.stamps.at) (c.args.id.now.name.0 ∷ c.stamps.stamps.now) ≡ Some c.in-Some-find.binding = (cc) in
    sym (found_own h.world h.here (structure_at h c.stamps.at) (environment_at h c.stamps.at) c.args.id.now.name c.stamps.stamps.now none c.in-Some-find.binding e) ∙ c.stamps.invariant.means_so
