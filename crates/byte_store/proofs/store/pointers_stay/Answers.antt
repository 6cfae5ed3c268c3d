use Rattle.byte_store.proofs.PointersStay.{stay}
use Rattle.byte_store.proofs.store.pointers_stay.Goals as goal

pub returns : goal.returns
returns g c = stay
