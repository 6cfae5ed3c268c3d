use Rattle.std.proofs.Common.{◌≡◌, ◌∙◌, ℕ, List, [], ◌∷◌, ◌++◌, drop, refl, ap, sym}
use Rattle.std.proofs.Math.ListN.{drop_of_length-le}
use Rattle.std.proofs.lemmas.List.{append-nil}
use Rattle.ps_bodies.specs.InsideBodies.{seen_members}
use Rattle.ps_bodies.specs.declared.values.Member.{Member}
use Rattle.ps_kernel.specs.declared.expr.GroupEntry.{GroupEntry}
use Rattle.ps_binders.specs.Binders.{entries}
use Rattle.ps_binders.proofs.letrec.entries.Goals as goal

entries_of_none : (ls : List ℕ) → entries ls [] ≡ []
entries_of_none [] = refl
entries_of_none (l ∷ ls) = refl

pub returns : goal.returns
returns c =
    let i = c.loop-i.i in
    let rest = drop i c.args.locals.now in
    let none : entries rest (seen_members (drop i c.args.members.now)) ≡ []
    = ap (λ (ms : List Member). entries rest (seen_members ms)) (drop_of_length-le c.args.members.now c.loop-i-test.false)
    ∙ entries_of_none rest in
    sym (append-nil c.loop-i.group) ∙ sym (ap (λ (es : List GroupEntry). c.loop-i.group ++ es) none) ∙ c.loop-i.invariant
