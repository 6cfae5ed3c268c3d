use Rattle.std.proofs.Common.{◌≡◌, ap, ◌∙◌, sym}
use Rattle.std.specs.Prelude.{slice_get}
use Rattle.std.specs.Option.{option_map, option_copied}
use Rattle.std.proofs.lemmas.Option.{slice_get-map}
use Rattle.byte_store.specs.Inside.{seen}
use Rattle.byte_store.proofs.NumbersAreFound.{find_is}
use Rattle.byte_store.proofs.store.Store.block.Goals as goal

pub returns-in-Fixed : goal.returns-in-Fixed
returns-in-Fixed g c = rw (c.in-Fixed.is, ← c.self.view_is) (ap (option_map seen) c.get.ensures.value ∙ find_is seen c.in-Fixed.n c.self.inside.fixed.entries)

pub returns-in-Made : goal.returns-in-Made
returns-in-Made g c =
    let here : option_copied c.at.result ≡ slice_get c.self.inside.made.items c.in-Made.n = rw (← c.as_slice.ensures.value) c.at.ensures in
    rw (c.in-Made.is, ← c.self.view_is) (ap (option_map seen) here ∙ sym (slice_get-map seen c.self.inside.made.items c.in-Made.n))
