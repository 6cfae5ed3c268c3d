use Rattle.std.proofs.Common.{drop, List, Bool, ap, sym}
use Rattle.byte_store.specs.Worlds.{Surroundings}
use Rattle.byte_store.proofs.RestOfDrop.{rest-drop}
use Rattle.byte_store.proofs.world.World.use_grant.Goals as goal

pub returns-then-self-len : goal.returns-then-self-len
returns-then-self-len c =
    let same = rest-drop c.self.inside.grants c.self.inside.asked in
    let at : List Bool → Surroundings = λ g. record { input = drop c.self.inside.read c.self.inside.input; grants = g } in
    rw (← c.self.view_is) (ap at (sym same))
