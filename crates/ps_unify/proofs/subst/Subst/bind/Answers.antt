use Rattle.std.proofs.Common.{◌≡◌, ◌++◌, ◌∷◌, [], nat_eq, sym, ◌∙◌, subst}
use Rattle.indexmap.proofs.CallerLemmas.{insert_entry-new}
use Rattle.ps_unify.specs.Bindings.{Free, Solved}
use Rattle.ps_unify.proofs.BindingsStaySolved.{not_found, solved_push}
use Rattle.ps_unify.proofs.subst.Subst.bind.Goals as goal

new_entries : (c : goal.Joined-branch-3) → c.insert.new.self.entries ≡ c.args.self.now ++ (c.args.variable, c.args.t.now) ∷ []
new_entries c = c.in_ok-insert.ensures.entries
    ∙ insert_entry-new nat_eq c.self.inside.bindings c.args.variable c.in_ok-copy.copy (not_found c.args.variable c.self.inside.bindings.entries (subst (Free c.args.variable) (sym c.self.view_is) c.requires.free).all)
    ∙ (λ i. c.self.view_is i ++ (c.args.variable, c.in_ok-copy.ensures i) ∷ [])

pub invariant_of-self-2 : goal.invariant_of-self-2
invariant_of-self-2 c = subst Solved (sym (new_entries c))
    (solved_push c.args.self.now c.args.variable c.args.t.now (subst Solved c.self.view_is c.self.invariant) c.requires.free c.requires.headed c.requires.away)

pub returns-clause-ok : goal.returns-clause-ok
returns-clause-ok c = new_entries c
