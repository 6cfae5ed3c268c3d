use Rattle.std.proofs.Common.{◌≡◌, ◌≤◌, ◌++◌, ◌∷◌, [], List, ℕ, map, sym, ap, ◌∙◌, subst}
use Rattle.std.proofs.lemmas.List.{map-append}
use Rattle.byte_store.specs.Blocks.{Block, next_number}
use Rattle.byte_store.specs.Inside.{seen, seen_numbered}
use Rattle.byte_store.proofs.NumbersAreFound.{inserted_last, next_after, next_shown}
use Rattle.byte_store.proofs.store.Store.fix.Goals as goal

pub invariant_of-self-2 : goal.invariant_of-self-2
invariant_of-self-2 g c =
    let above : next_number c.self.inside.fixed.entries ≤ c.args.number = rw (← next_shown seen c.self.inside.fixed.entries) (subst (λ m. next_number m.fixed ≤ c.args.number) (sym c.self.view_is) c.requires.above) in
    let added : c.insert.new.self.entries ≡ c.self.inside.fixed.entries ++ (c.args.number, c.args.block) ∷ [] = c.in_ok-insert.ensures.entries ∙ inserted_last c.args.number c.args.block c.self.inside.fixed.entries above in
    sym (next_shown seen c.insert.new.self.entries ∙ ap next_number added ∙ next_after c.args.number c.args.block c.self.inside.fixed.entries above)

pub returns : goal.returns
returns g c =
    let above : next_number c.self.inside.fixed.entries ≤ c.args.number = rw (← next_shown seen c.self.inside.fixed.entries) (subst (λ m. next_number m.fixed ≤ c.args.number) (sym c.self.view_is) c.requires.above) in
    let added : c.insert.new.self.entries ≡ c.self.inside.fixed.entries ++ (c.args.number, c.args.block) ∷ [] = c.in_ok-insert.ensures.entries ∙ inserted_last c.args.number c.args.block c.self.inside.fixed.entries above in
    let shown = ap (map seen_numbered) added ∙ map-append seen_numbered c.self.inside.fixed.entries ((c.args.number, c.args.block) ∷ []) in
    rw (← c.self.view_is) (ap (λ (es : List (ℕ × Block _)). record { fixed = es; made = map seen c.self.inside.made.items }) shown)
