use Rattle.std.proofs.Common.{ap, ◌∙◌, refl, not}
use Rattle.ps_pattern.specs.Identifiers.{stands, with_key}
use Rattle.ps_pattern.proofs.Tables.{stands_is, added_is, items_of}
use Rattle.ps_derived.proofs.keys.Keys.add.Goals as goal

pub returns-clause-added : goal.returns-clause-added
returns-clause-added c =
    let keys = c.self.inside.keys.keys in
    let key = c.in_ok-key.key in
    ap items_of c.in_ok-new.ensures.keys ∙ added_is keys key _ refl ∙ ap (λ ks. with_key ks key.items) c.self.view_is ∙ ap (with_key c.args.self.now) c.in_ok-key.ensures

pub returns-clause-told : goal.returns-clause-told
returns-clause-told c =
    let keys = c.self.inside.keys.keys in
    let key = c.in_ok-key.key in
    c.in_ok-new.ensures.added ∙ ap not (stands_is keys key.items ∙ ap (λ ks. stands ks key.items) c.self.view_is ∙ ap (stands c.args.self.now) c.in_ok-key.ensures)
