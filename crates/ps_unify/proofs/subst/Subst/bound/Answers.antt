use Rattle.std.proofs.Common.{sym, subst}
use Rattle.ps_unify.specs.Bindings.{Free}
use Rattle.ps_unify.specs.InsideBindings.{At}
use Rattle.ps_unify.proofs.BindingsStaySolved.{at_entry, free_of}
use Rattle.ps_unify.proofs.subst.Subst.bound.Goals as goal

pub returns-in-Some-clause-found : goal.returns-in-Some-clause-found
returns-in-Some-clause-found c = subst (λ z. At z c.in-Some.place c.args.variable c.in-Some.t.now) c.self.view_is
    (at_entry c.self.inside.bindings.entries c.in-Some.place c.args.variable c.in-Some.field-0-1.now c.in-Some.t.now (sym c.in-Some.ensures.key) c.in-Some.ensures.entry)

pub returns-in-None-clause-missing : goal.returns-in-None-clause-missing
returns-in-None-clause-missing c = subst (Free c.args.variable) c.self.view_is (record { all = free_of c.args.variable c.self.inside.bindings.entries (sym c.in-None.ensures.value) })
