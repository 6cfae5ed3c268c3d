use Rattle.std.proofs.Common.{◌≡◌, List, ℕ, subst}
use Rattle.std.specs.Int.{w64}
use Rattle.std.proofs.lemmas.Int.{to_z-of_z}
use Rattle.byte_store.specs.Store.{Leaves}
use Rattle.byte_store.specs.Operations.{bytes_of_word, change, with_bytes}
use Rattle.byte_store.proofs.EditsChangeOneBlock.{plus_zero}
use Rattle.byte_store.proofs.store.Store.set_word.Goals as goal

pub returns : goal.returns
returns g c =
    let bytes : c.bytes_of.result ≡ bytes_of_word c.args.word = rw (to_z-of_z w64 c.args.word c.ranges.word) at c.bytes_of.ensures in
    subst (λ (bs : List ℕ). Leaves c.edit.result c.args.self.now c.edit.new.self (change c.args.self.now c.args.p (with_bytes bs))) bytes
    (subst (λ q. Leaves c.edit.result c.args.self.now c.edit.new.self (change c.args.self.now q (with_bytes c.bytes_of.result))) (plus_zero c.args.p) c.edit.ensures)
